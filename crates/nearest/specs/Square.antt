-- What squares of distances tell without a root. Nothing that a host calls rests on this page.
use Rattle.std.specs.Prelude.{Bool, ◌&&◌, Float}
use Rattle.std.specs.Float.Ieee.{le}
use Rattle.geometry.specs.Float.{◌-ᶠ◌, zeroᶠ, epsilon}
use Rattle.geometry.specs.Point.{dot2, sub2, xy}
use Rattle.geometry.specs.declared.Point2.{Point2}
use Rattle.geometry.specs.declared.Point3.{Point3}

-- the square of a point's distance to another, in the plane
unfoldable pub square : Point3 → Point2 → Float
square p to = dot2 (sub2 (xy p) to) (sub2 (xy p) to)

-- the root keeps the order: a larger square is no nearer
unfoldable pub surely_not_nearer : Float → Float → Float → Bool
surely_not_nearer best least next = le (best -ᶠ epsilon) best && (le zeroᶠ least && le least next)
