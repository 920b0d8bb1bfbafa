-- `merge_room::lines_fit` meets its contract. Assumes nothing.
use Rattle.merge_room.proofs.lines_fit.Goals as goal

pub returns : goal.returns
returns c = rw (c.both-2.ensures, c.both.ensures, c.either.ensures, c.both-over.ensures, c.joins.ensures, c.joins-2.ensures, c.side_points.ensures, c.side_points-2.ensures, c.unwrap_or.ensures)
