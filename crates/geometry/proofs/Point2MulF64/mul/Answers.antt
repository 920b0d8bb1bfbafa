-- `geometry::Point2::mul` meets its contract. Assumes nothing.
use Rattle.geometry.specs.Point.{mul2}
use mathlib.Core.Path.{refl}
use Rattle.geometry.proofs.Point2MulF64.mul.Goals as goal

pub returns : goal.returns
unfolding mul2
returns c = refl
