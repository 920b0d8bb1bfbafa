-- `lane_lists::warn` meets its contract. The invariant: the rules of the first i rows are warned of. Assumes nothing.
use Prim.Native.Nat.{◌+◌, ◌*◌, ◌-◌, ◌≤◌}
use native.Mathlib.Omega.{arith}
use lib.ListN.{length}
use mathlib.Core.Path.{refl}
use Rattle.mentions.specs.declared.Rows.TheVariants.{Orphans}
use Rattle.mentions.proofs.Turns.{formed-some, formed-few, lent-room, lent-formed}
use Rattle.lane_lists.proofs.Warned.{Warned, warned-none, warned-length, warned-room, warned-turn, warned-all}
use Rattle.lane_lists.proofs.warn.Given as goal

abbrev pub invariant-loop-i : goal.invariant-loop-i
invariant-loop-i l = Warned l.lane l.rules l.initial.warnings l.warnings l.i l.place
