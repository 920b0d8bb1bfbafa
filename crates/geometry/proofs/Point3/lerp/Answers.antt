-- `geometry::Point3::lerp` meets its contract. Assumes nothing.
use Rattle.geometry.specs.Point.{lerp3}
use Rattle.geometry.proofs.Point3.lerp.Goals as goal

pub returns : goal.returns
unfolding lerp3
returns c = cc
