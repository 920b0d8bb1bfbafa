-- `merge_points::joins` meets its contract. Assumes nothing.
use Rattle.merge_points.proofs.joins.Goals as goal

pub returns-in-InPlace : goal.returns-in-InPlace
returns-in-InPlace c = rw c.in-InPlace.is
