-- `geometry::Point3::is_finite` meets its contract. Assumes nothing.
use lib.Ieee.Scale.{finite}
use Rattle.geometry.proofs.Both.{first, second}
use Rattle.geometry.specs.Point.{finite2, finite3}
use mathlib.Core.Path.{◌∙◌, ap}
use Rattle.geometry.proofs.Point3.is_finite.Goals as goal

pub returns-then-is_finite : goal.returns-then-is_finite
unfolding finite3
returns-then-is_finite c =
    second c.if-is_finite.true (c.is_finite.ensures ∙ ap finite2 c.xy.ensures) c.is_finite-then-is_finite.ensures

pub returns-else-is_finite : goal.returns-else-is_finite
unfolding finite3
returns-else-is_finite c = first (finite c.args.self.z) c.if-is_finite.false (c.is_finite.ensures ∙ ap finite2 c.xy.ensures)
