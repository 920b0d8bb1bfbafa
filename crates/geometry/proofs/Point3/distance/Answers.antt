-- `geometry::Point3::distance` meets its contract. Assumes nothing.
use Rattle.geometry.specs.Point.{distance3}
use Rattle.geometry.proofs.Point3.distance.Goals as goal

pub returns : goal.returns
unfolding distance3
returns c = cc
