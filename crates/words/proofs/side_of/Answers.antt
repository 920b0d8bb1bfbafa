use borrow.Author.Tests.{eq-eqb, ne_eqb}
use Rattle.words.proofs.side_of.Goals as goal

-- src/lib.rt:75:9
pub returns-then-n-eq0 : goal.returns-then-n-eq0
returns-then-n-eq0 c = rw (eq-eqb _ _ c.if-n-eq0.true)

-- src/lib.rt:71:1
pub returns : goal.returns
returns c = rw (ne_eqb _ _ c.if-n-eq0.false)
