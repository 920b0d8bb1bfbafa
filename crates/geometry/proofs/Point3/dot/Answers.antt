-- `geometry::Point3::dot` meets its contract. Assumes nothing.
use Rattle.geometry.specs.Point.{dot3}
use mathlib.Core.Path.{refl}
use Rattle.geometry.proofs.Point3.dot.Goals as goal

pub returns : goal.returns
unfolding dot3
returns c = refl
