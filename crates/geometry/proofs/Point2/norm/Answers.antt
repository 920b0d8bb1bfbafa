-- `geometry::Point2::norm` meets its contract. Assumes nothing.
use Rattle.geometry.specs.Point.{norm2}
use Rattle.geometry.proofs.Point2.norm.Goals as goal

pub returns : goal.returns
unfolding norm2
returns c = cc
