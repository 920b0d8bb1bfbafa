-- `follows::follow_all` meets its contract. The invariant: the first r cut lanes are done, and the others make of the list what all make of it. Assumes
-- nothing.
use Prim.Native.Nat.{◌-◌}
use native.Mathlib.Omega.{arith}
use lib.ListN.{length}
use Rattle.follows.proofs.Rows.{Followed, followed-none, follow-may, followed-turn, followed-done}
use Rattle.follows.proofs.follow_all.Given as goal

abbrev pub invariant-loop-r : goal.invariant-loop-r
invariant-loop-r l = Followed l.anchored l.past l.next l.cut l.initial.row l.row l.r
