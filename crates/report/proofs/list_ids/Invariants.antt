-- `report::list_ids` meets its contract. The invariant: the words of the first i entities are written from place `at` on.
-- Assumes nothing.
use mathlib.Core.Path.{◌≡◌, refl, sym}
use Prim.Native.Nat.{◌-◌, ◌*◌, ◌≤◌}
use native.Mathlib.Omega.{arith}
use lib.ListN.{length, take, length-set}
use Rattle.lists.specs.Rows.{over}
use Rattle.lists.specs.Select.{each}
use Rattle.lists.proofs.Rows.{over-nil}
use Rattle.report.proofs.Laws.{pairs_of, list-step, list-end}
use Rattle.report.proofs.list_ids.Given as goal

abbrev pub invariant-loop-i : goal.invariant-loop-i
invariant-loop-i l = (l.i ≤ length l.ids) × ((length l.out ≡ length l.initial.out) × (l.out ≡ over l.initial.out (l.at * 2) (pairs_of l.number (take l.i l.ids))))
