-- `geometry::Point2::lerp` meets its contract. Assumes nothing.
use Rattle.geometry.specs.Point.{lerp2}
use Rattle.geometry.proofs.Point2.lerp.Goals as goal

pub returns : goal.returns
unfolding lerp2
returns c = cc
