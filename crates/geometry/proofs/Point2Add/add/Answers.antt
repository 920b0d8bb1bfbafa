-- `geometry::Point2::add` meets its contract. Assumes nothing.
use Rattle.geometry.specs.Point.{add2}
use mathlib.Core.Path.{refl}
use Rattle.geometry.proofs.Point2Add.add.Goals as goal

pub returns : goal.returns
unfolding add2
returns c = refl
