-- `geometry::Point3::mul` meets its contract. Assumes nothing.
use Rattle.geometry.specs.Point.{mul3}
use mathlib.Core.Path.{refl}
use Rattle.geometry.proofs.Point3MulF64.mul.Goals as goal

pub returns : goal.returns
unfolding mul3
returns c = refl
