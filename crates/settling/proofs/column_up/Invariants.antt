-- `settling::column_up` meets its contract. The invariant: the lines of the rows from i on are at their places, which begin at the place as it is. Assumes nothing.
use Prim.Native.Nat.{◌≤◌}
use Rattle.tables.specs.View.{word}
use Rattle.order.specs.Order.{column_of}
use Rattle.in_place.proofs.Walks.{Up}
use Rattle.settling.proofs.column_up.Given as goal

abbrev pub invariant-loop-i : goal.invariant-loop-i
invariant-loop-i l = (l.i ≤ word 0 l.t) × Up (column_of l.column.stride l.column.offset l.column.marked) l.t l.drawn l.reach l.initial.coordinates l.end (word 0 l.t) l.i l.coordinates l.place
