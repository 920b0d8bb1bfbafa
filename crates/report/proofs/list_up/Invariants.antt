-- `report::list_up` meets its contract. The invariant: the words of the first i entities are written from place `at` on.
-- Assumes nothing.
use mathlib.Core.Path.{◌≡◌, refl}
use Prim.Native.Nat.{◌-◌, ◌*◌, ◌≤◌}
use native.Mathlib.Omega.{arith}
use lib.ListN.{length, length-set}
use Rattle.lists.specs.Rows.{over}
use Rattle.rules.specs.Edit.{up_from}
use Rattle.report.proofs.Laws.{pairs_of, up_none, up_step, up-end}
use Rattle.report.proofs.list_up.Given as goal

abbrev pub invariant-loop-i : goal.invariant-loop-i
invariant-loop-i l = (l.i ≤ l.n) × ((length l.out ≡ length l.initial.out) × (l.out ≡ over l.initial.out (l.at * 2) (pairs_of l.number (up_from l.from l.i))))
