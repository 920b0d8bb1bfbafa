-- `split_room::lane_points` meets its contract. The invariant: the points of the lanes before number i, of which r are marked, and of those from there on are
-- the whole. Assumes nothing.
use Rattle.split_room.proofs.Points.{Between}
use Rattle.split_room.proofs.lane_points.Given as goal

abbrev pub invariant-loop-i : goal.invariant-loop-i
invariant-loop-i l = Between l.centers l.seen l.lanes l.i l.r l.points
