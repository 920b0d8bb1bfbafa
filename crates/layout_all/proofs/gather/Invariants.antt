-- `layout_all::gather` meets its contract. The invariant: what becomes of the column is what becomes of the rows from i on, from the place as it is. Assumes
-- nothing.
use Prim.Native.Nat.{◌+◌, ◌-◌, ◌*◌, ◌≤◌}
use Rattle.layout.specs.Layout.{sourced, plain}
use Rattle.layout.proofs.Column.{Left}
use Rattle.layout_all.proofs.gather.Given as goal

abbrev pub invariant-loop-i : goal.invariant-loop-i
invariant-loop-i l = (l.i ≤ l.n) × Left (plain l.column.stride l.column.offset) (sourced l.reach l.work l.drawn) l.initial.rows l.initial.coordinates l.at (l.n - l.i) (1 + l.i * l.column.stride) l.rows l.coordinates l.place
