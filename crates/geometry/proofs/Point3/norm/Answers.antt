-- `geometry::Point3::norm` meets its contract. Assumes nothing.
use Rattle.geometry.specs.Point.{norm3}
use Rattle.geometry.proofs.Point3.norm.Goals as goal

pub returns : goal.returns
unfolding norm3
returns c = cc
