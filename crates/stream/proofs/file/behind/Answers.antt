use borrow.Author.Tests.{lt-ltb, le-ltb}
use Rattle.stream.proofs.file.behind.Goals as goal

-- src/file.rt:25:9
pub returns-then-n-gt-STEP : goal.returns-then-n-gt-STEP
returns-then-n-gt-STEP c = rw (lt-ltb _ _ c.if-n-gt-STEP.true)

-- src/file.rt:28:9
pub returns-then-at-gt-LAST : goal.returns-then-at-gt-LAST
returns-then-at-gt-LAST c = rw (le-ltb _ _ c.if-n-gt-STEP.false, lt-ltb _ _ c.if-at-gt-LAST.true)

-- src/file.rt:21:1
pub returns : goal.returns
returns c = rw (le-ltb _ _ c.if-n-gt-STEP.false, le-ltb _ _ c.if-at-gt-LAST.false)
