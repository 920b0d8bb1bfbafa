-- `geometry::Point2::sub` meets its contract. Assumes nothing.
use Rattle.geometry.specs.Point.{sub2}
use mathlib.Core.Path.{refl}
use Rattle.geometry.proofs.Point2Sub.sub.Goals as goal

pub returns : goal.returns
unfolding sub2
returns c = refl
