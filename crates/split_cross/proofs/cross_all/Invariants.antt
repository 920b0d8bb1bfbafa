-- `split_cross::cross_all` meets its contract. The invariant: the boundaries of the marked lanes before row j cross the cut. Assumes nothing.
use Rattle.std.specs.Prelude.{Ok}
use mathlib.Core.Path.{◌≡◌, sym, ◌∙◌}
use mathlib.Core.Logic.{⊎_elim}
use Prim.Native.Nat.{◌-◌, ◌≤◌}
use native.Mathlib.Omega.{arith}
use borrow.Author.Rules.{rules}
use Rattle.rules.specs.Edit.{passed}
use Rattle.tables.specs.View.{word}
use Rattle.lookup.proofs.Laws.{sorted-room}
use Rattle.split_plan.specs.Placing.{row_crosses, all_pass}
use Rattle.split_plan.proofs.Turns.{first_rows, cross-begins, cross-none, cross-one, cross-stops, cross-ends}
use Rattle.split_cross.proofs.cross_all.Given as goal

abbrev pub invariant-loop-j : goal.invariant-loop-j
invariant-loop-j l = (l.j ≤ word 0 l.map.lanes.now) × (all_pass (row_crosses l.map.coordinates.now l.map.boundaries.now l.point) (first_rows l.seen l.map.lanes.now l.j) ≡ Ok passed)
