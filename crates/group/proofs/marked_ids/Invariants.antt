-- `group::marked_ids` meets its contract. The invariant: the ids of the marked rows before j are written. Assumes nothing.
use mathlib.Core.Path.{◌≡◌}
use Prim.Native.Nat.{◌≤◌}
use lib.ListN.{length, take}
use Rattle.lists.specs.Rows.{over}
use Rattle.tables.specs.View.{word}
use Rattle.group.specs.Walk.{ids_of, chosen}
use Rattle.group.proofs.marked_ids.Given as goal

abbrev pub invariant-loop-j : goal.invariant-loop-j
invariant-loop-j l = (l.j ≤ word 0 l.lanes) × ((l.count ≤ l.j) × ((length l.out ≡ length l.initial.out) × ((l.count ≡ length (chosen l.seen (take l.j (ids_of l.lanes)))) × (l.out ≡ over l.initial.out 0 (chosen l.seen (take l.j (ids_of l.lanes)))))))
