-- `settling::column_starts` meets its contract. The invariant: what becomes of the table is what becomes of its rows from i on, from the place as it is.
-- Assumes nothing.
use Prim.Native.Nat.{◌+◌, ◌-◌, ◌*◌, ◌≤◌}
use Rattle.order.specs.Order.{column_of}
use Rattle.in_place.proofs.Starts.{Starts}
use Rattle.settling.proofs.column_starts.Given as goal

abbrev pub invariant-loop-i : goal.invariant-loop-i
invariant-loop-i l = (l.i ≤ l.n) × Starts (column_of l.column.stride l.column.offset l.column.marked) l.initial.t l.at (l.n - l.i) (1 + l.i * l.column.stride) l.t l.place
