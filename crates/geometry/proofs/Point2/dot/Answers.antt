-- `geometry::Point2::dot` meets its contract. Assumes nothing.
use Rattle.geometry.specs.Point.{dot2}
use mathlib.Core.Path.{refl}
use Rattle.geometry.proofs.Point2.dot.Goals as goal

pub returns : goal.returns
unfolding dot2
returns c = refl
