-- `layout_all::gather_centers` meets its contract. The invariant: what becomes of the centrelines is what becomes of those from lane i on, from the place as it
-- is. Assumes nothing.
use Prim.Native.Nat.{◌+◌, ◌-◌, ◌*◌, ◌≤◌}
use Rattle.layout.specs.Layout.{sourced, centerlines}
use Rattle.layout.proofs.Column.{Left}
use Rattle.layout_all.proofs.gather_centers.Given as goal

abbrev pub invariant-loop-i : goal.invariant-loop-i
invariant-loop-i l = (l.i ≤ l.n) × Left centerlines (sourced l.reach l.work l.drawn) l.initial.lanes l.initial.coordinates l.at (l.n - l.i) (1 + l.i * 52) l.lanes l.coordinates l.place
