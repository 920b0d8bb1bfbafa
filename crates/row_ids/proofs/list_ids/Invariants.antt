-- `row_ids::list_ids` meets its contract. The invariant: the ids of the rows before i are listed. Assumes nothing.
use Prim.Native.Nat.{◌≤◌}
use mathlib.Core.Path.{◌≡◌}
use lib.ListN.{length, take}
use Rattle.lists.specs.Rows.{keys}
use Rattle.row_ids.specs.Listed.{Listed}
use Rattle.row_ids.proofs.list_ids.Given as goal

abbrev pub invariant-loop-i : goal.invariant-loop-i
invariant-loop-i l = (l.i ≤ l.n) × ((length l.ids ≡ length l.initial.ids) × Listed (take l.i (keys l.s l.n l.rows)) l.ids)
