-- `root::settle::above` meets its contract. Assumes nothing.
use Rattle.std.proofs.Common.{arith, le-ltb, lt-ltb}
use Rattle.root.proofs.settle.above.Goals as goal

pub returns-then-x-y : goal.returns-then-x-y
returns-then-x-y c = (rw (lt-ltb _ _ c.if-x-y.true), omega arith)

pub returns-else-x-y : goal.returns-else-x-y
returns-else-x-y c = (rw (le-ltb _ _ c.if-x-y.false), omega arith)
