-- `room::column_points` meets its contract. The invariant: what is counted are the points of the rows before i. Assumes nothing.
use Prim.Native.Nat.{◌+◌, ◌-◌, ◌*◌, ◌≤◌, ◌<◌}
use native.Mathlib.Omega.{arith}
use lib.ListN.{length, get_or}
use Rattle.tables.specs.View.{word}
use Rattle.row_tests.proofs.Tables.{table-some, table-few, row_room}
use Rattle.room.specs.Room.{column_points}
use Rattle.room.proofs.Sums.{Summed, sum-starts, sum-turns, sum-ends, size-read, size_few}
use Rattle.room.proofs.column_points.Given as goal

abbrev pub invariant-loop-i : goal.invariant-loop-i
invariant-loop-i l = Summed l.stride (word (l.offset + 1)) l.t 256 l.i l.points
