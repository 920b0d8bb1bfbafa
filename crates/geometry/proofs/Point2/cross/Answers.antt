-- `geometry::Point2::cross` meets its contract. Assumes nothing.
use Rattle.geometry.specs.Point.{cross}
use mathlib.Core.Path.{refl}
use Rattle.geometry.proofs.Point2.cross.Goals as goal

pub returns : goal.returns
unfolding cross
returns c = refl
