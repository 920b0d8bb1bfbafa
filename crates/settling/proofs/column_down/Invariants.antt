-- `settling::column_down` meets its contract. The invariant: what becomes of the column's lines is what becomes of those of the rows from i on, from the place
-- as it is. Assumes nothing.
use Prim.Native.Nat.{◌≤◌}
use Rattle.order.specs.Order.{column_of}
use Rattle.in_place.proofs.Walks.{Down}
use Rattle.settling.proofs.column_down.Given as goal

abbrev pub invariant-loop-i : goal.invariant-loop-i
invariant-loop-i l = (l.i ≤ l.n) × Down (column_of l.column.stride l.column.offset l.column.marked) l.t l.reach l.initial.coordinates l.at l.n l.i l.coordinates l.place
