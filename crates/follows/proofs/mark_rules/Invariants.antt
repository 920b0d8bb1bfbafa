-- `follows::mark_rules` meets its contract. The invariant: the first i marks are those of the first i rules. Assumes nothing.
use Prim.Native.Nat.{◌-◌}
use native.Mathlib.Omega.{arith}
use Rattle.follows.proofs.Differs.{Marked, mark-begins, mark-some, mark-few, mark-long, mark-room, past_room, mark-may, mark-turn, mark-ends}
use Rattle.follows.proofs.mark_rules.Given as goal

abbrev pub invariant-loop-i : goal.invariant-loop-i
invariant-loop-i l = Marked l.anchored l.past l.cut l.t l.initial.marks l.i l.marks
