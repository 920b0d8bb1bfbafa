-- `geometry::Point3::sub` meets its contract. Assumes nothing.
use Rattle.geometry.specs.Point.{sub3}
use mathlib.Core.Path.{refl}
use Rattle.geometry.proofs.Point3Sub.sub.Goals as goal

pub returns : goal.returns
unfolding sub3
returns c = refl
