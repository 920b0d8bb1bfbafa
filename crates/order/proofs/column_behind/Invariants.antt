-- `order::column_behind` meets its contract. The invariant: the point behind all lines is that behind the lines of the rows from i on, from the place as it is.
-- Assumes nothing.
use mathlib.Core.Path.{◌≡◌}
use Prim.Native.Nat.{◌≤◌}
use Rattle.layout.specs.Layout.{column_lines}
use Rattle.order.specs.Order.{column_of, behind_all}
use Rattle.order.proofs.Walk.{lines_from}
use Rattle.order.proofs.column_behind.Given as goal

abbrev pub invariant-loop-i : goal.invariant-loop-i
invariant-loop-i l = (l.i ≤ l.n) × (behind_all l.reach l.from (column_lines (column_of l.stride l.offset l.marked) l.t) ≡ behind_all l.reach l.far (lines_from (column_of l.stride l.offset l.marked) l.t l.n l.i))
