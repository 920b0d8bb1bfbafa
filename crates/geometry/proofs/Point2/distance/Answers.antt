-- `geometry::Point2::distance` meets its contract. Assumes nothing.
use Rattle.geometry.specs.Point.{distance2}
use Rattle.geometry.proofs.Point2.distance.Goals as goal

pub returns : goal.returns
unfolding distance2
returns c = cc
