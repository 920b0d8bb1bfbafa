-- geometry/mod.rs: points by value, each float operation in the order of the Rust.
-- Document 01: norms are the root of the rounded sum of squares, left to right, in two dimensions too (docs/DIFFERENCES.md, `hypot`).
use Rattle.std.specs.Prelude.{Bool, ◌&&◌, cond, Float, Option, None, Some}
use Rattle.std.specs.Float.Ieee.{lt}
use Rattle.std.specs.Float.Ieee.Scale.{finite}
use Rattle.root.specs.Root.{root}
use Rattle.geometry.specs.Float.{◌+ᶠ◌, ◌-ᶠ◌, ◌*ᶠ◌, ◌/ᶠ◌, zeroᶠ, oneᶠ, epsilon, clamp, coordinate}
use Rattle.geometry.specs.declared.Point2.{Point2}
use Rattle.geometry.specs.declared.Point3.{Point3}

-- ---- Point2

unfoldable pub add2 : Point2 → Point2 → Point2
add2 p q = record { x = p.x +ᶠ q.x; y = p.y +ᶠ q.y }

unfoldable pub sub2 : Point2 → Point2 → Point2
sub2 p q = record { x = p.x -ᶠ q.x; y = p.y -ᶠ q.y }

unfoldable pub mul2 : Point2 → Float → Point2
mul2 p k = record { x = p.x *ᶠ k; y = p.y *ᶠ k }

unfoldable pub dot2 : Point2 → Point2 → Float
dot2 p q = p.x *ᶠ q.x +ᶠ p.y *ᶠ q.y

unfoldable pub cross : Point2 → Point2 → Float
cross p q = p.x *ᶠ q.y -ᶠ p.y *ᶠ q.x

unfoldable pub norm2 : Point2 → Float
norm2 p = root (p.x *ᶠ p.x +ᶠ p.y *ᶠ p.y)

unfoldable pub distance2 : Point2 → Point2 → Float
distance2 p q = norm2 (sub2 p q)

-- the unit vector, or nothing where the norm is not above EPSILON
unfoldable pub normalized : Point2 → Option Point2
normalized p = let n = norm2 p in cond (lt epsilon n) (Some (record { x = p.x /ᶠ n; y = p.y /ᶠ n })) None

unfoldable pub lerp2 : Point2 → Point2 → Float → Point2
lerp2 p q t = add2 p (mul2 (sub2 q p) t)

unfoldable pub finite2 : Point2 → Bool
finite2 p = finite p.x && finite p.y

-- ---- Point3

unfoldable pub add3 : Point3 → Point3 → Point3
add3 p q = record { x = p.x +ᶠ q.x; y = p.y +ᶠ q.y; z = p.z +ᶠ q.z }

unfoldable pub sub3 : Point3 → Point3 → Point3
sub3 p q = record { x = p.x -ᶠ q.x; y = p.y -ᶠ q.y; z = p.z -ᶠ q.z }

unfoldable pub mul3 : Point3 → Float → Point3
mul3 p k = record { x = p.x *ᶠ k; y = p.y *ᶠ k; z = p.z *ᶠ k }

unfoldable pub dot3 : Point3 → Point3 → Float
dot3 p q = p.x *ᶠ q.x +ᶠ p.y *ᶠ q.y +ᶠ p.z *ᶠ q.z

unfoldable pub norm3 : Point3 → Float
norm3 p = root (p.x *ᶠ p.x +ᶠ p.y *ᶠ p.y +ᶠ p.z *ᶠ p.z)

unfoldable pub distance3 : Point3 → Point3 → Float
distance3 p q = norm3 (sub3 p q)

unfoldable pub xy : Point3 → Point2
xy p = record { x = p.x; y = p.y }

unfoldable pub distance_2d : Point3 → Point3 → Float
distance_2d p q = distance2 (xy p) (xy q)

-- Document 01: "Interpolation is a + (b − a) × t, three roundings."
unfoldable pub lerp3 : Point3 → Point3 → Float → Point3
lerp3 p q t = add3 p (mul3 (sub3 q p) t)

unfoldable pub finite3 : Point3 → Bool
finite3 p = finite2 (xy p) && finite p.z

-- a point of a sound map: each coordinate within ±2^24
unfoldable pub in_reach : Point3 → Bool
in_reach p = coordinate p.x && coordinate p.y && coordinate p.z

-- ---- segments

-- Document 01: "`project_on_segment` gives 0 where the squared length is below EPSILON × EPSILON."
unfoldable pub project_on_segment : Point2 → Point2 → Point2 → Float
project_on_segment p a b =
    let ab = sub2 b a in
    let len2 = dot2 ab ab in
    cond (lt len2 (epsilon *ᶠ epsilon)) zeroᶠ (clamp (dot2 (sub2 p a) ab /ᶠ len2) zeroᶠ oneᶠ)
