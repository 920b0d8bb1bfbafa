use native.Mathlib.Omega.{arith}
use Prim.Native.Nat.{◌+◌}
use Rattle.stream.proofs.Numbers.{past_end}
use Rattle.stream.proofs.byte.Goals as goal

-- src/lib.rt:144:13
pub returns-then-i-s : goal.returns-then-i-s
returns-then-i-s c = (c.wide.ensures, omega (arith, c.wide.ensures))

-- src/lib.rt:139:1
pub returns-else-i-s : goal.returns-else-i-s
returns-else-i-s c = (past_end c.args.s.now (c.args.at + c.args.i) (omega arith), omega arith)

-- src/lib.rt:139:1
pub returns-else-at-s : goal.returns-else-at-s
returns-else-at-s c = (past_end c.args.s.now (c.args.at + c.args.i) (omega arith), omega arith)
