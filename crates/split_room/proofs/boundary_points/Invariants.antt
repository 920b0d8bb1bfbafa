-- `split_room::boundary_points` meets its contract. The invariant: the points of the boundaries before number i, of which j are marked, and of those from there
-- on are the whole. Assumes nothing.
use Rattle.split_room.proofs.Points.{Bounds}
use Rattle.split_room.proofs.boundary_points.Given as goal

abbrev pub invariant-loop-i : goal.invariant-loop-i
invariant-loop-i l = Bounds l.pieces l.lines l.marks l.boundaries l.i l.j l.points
