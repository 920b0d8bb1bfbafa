-- `geometry::Point3::add` meets its contract. Assumes nothing.
use Rattle.geometry.specs.Point.{add3}
use mathlib.Core.Path.{refl}
use Rattle.geometry.proofs.Point3Add.add.Goals as goal

pub returns : goal.returns
unfolding add3
returns c = refl
