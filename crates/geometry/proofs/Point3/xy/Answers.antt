-- `geometry::Point3::xy` meets its contract. Assumes nothing.
use Rattle.geometry.specs.Point.{xy}
use mathlib.Core.Path.{refl}
use Rattle.geometry.proofs.Point3.xy.Goals as goal

pub returns : goal.returns
unfolding xy
returns c = refl
