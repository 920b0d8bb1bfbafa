-- `joins::shared_ends` meets its contract. Assumes nothing.
use Rattle.polyline.specs.Polyline.{skipped}
use Rattle.joins.proofs.shared_ends.Goals as goal

pub returns : goal.returns
unfolding skipped
returns c = rw (c.meeting.ensures, c.last.ensures, c.first.ensures)
