-- Points within ±2^24: interpolation stays there, and distances are finite, not negative and bounded.
use mathlib.Core.Path.{◌≡◌, refl}
use mathlib.Core.Bool.{true, ◌&&◌}
use lib.Dec.{T}
use lib.Ieee.{Float, binary64, of_bits, le, fits}
use lib.Ieee.Fits.{add-fits}
use lib.Ieee.Scale.{finite}
use Rattle.root.specs.Root.{root}
use Rattle.root.proofs.Nearest.{root-finite, root-mono}
use Rattle.geometry.specs.Float.{◌+ᶠ◌, ◌*ᶠ◌, coordinate, fraction, mix}
use Rattle.geometry.specs.Bounds.{nought, plane, space, flattest, farthest, far, Between}
use Rattle.geometry.specs.Point.{in_reach, lerp3, add3, sub2, sub3, mul3, norm2, norm3, distance2, distance3, distance_2d, xy}
use Rattle.geometry.specs.declared.Point2.{Point2}
use Rattle.geometry.specs.declared.Point3.{Point3}
use Rattle.geometry.proofs.Both.{both, left, right}
use Rattle.geometry.proofs.Order.{finite-between, le_trans}
use Rattle.geometry.proofs.Mix.{mix-coordinate}
use Rattle.geometry.proofs.Reach.{sub-reach, plane-reach, space-reach}

-- A point in reach, coordinate by coordinate.
pub record Reached (p : Point3) : Type 0 where
  pub of-x : coordinate p.x ≡ true
  pub of-y : coordinate p.y ≡ true
  pub of-z : coordinate p.z ≡ true

pub reached : (p : Point3) → in_reach p ≡ true → Reached p
unfolding in_reach
reached p h =
    let flat = left (coordinate p.x && coordinate p.y) (coordinate p.z) h in
    record {
      of-x = left (coordinate p.x) (coordinate p.y) flat;
      of-y = right (coordinate p.x) (coordinate p.y) flat;
      of-z = right (coordinate p.x && coordinate p.y) (coordinate p.z) h;
    }

pub in_reach_lem : (p : Point3) → Reached p → in_reach p ≡ true
unfolding in_reach
in_reach_lem p r = both (both r.of-x r.of-y) r.of-z

-- Document 01: "For t in 0 to 1 and coordinates within ±16,777,216 (2^24) the result stays within ±2^24".
pub lerp_reach : (p q : Point3) (t : Float) → in_reach p ≡ true → in_reach q ≡ true → fraction t ≡ true → in_reach (lerp3 p q t) ≡ true
unfolding in_reach lerp3 add3 sub3 mul3 mix
lerp_reach p q t hp hq ht =
    let a = reached p hp in
    let b = reached q hq in
    both
    (both (mix-coordinate p.x q.x t a.of-x b.of-x ht) (mix-coordinate p.y q.y t a.of-y b.of-y ht))
    (mix-coordinate p.z q.z t a.of-z b.of-z ht)

-- ---- distances

pub flattest-is : flattest ≡ root plane
unfolding root of_bits
flattest-is = refl

pub farthest-is : farthest ≡ root space
unfolding root of_bits
farthest-is = refl

-- the root of what lies between 0 and a finite bound lies between 0 and the bound's root
pub root-between : {x most : Float} → T (fits binary64 x) → T (fits binary64 most) → finite most ≡ true → Between nought x most → Between nought (root x) (root most)
unfolding of_bits
root-between {x} {most} f g h b =
    record { low = (root-finite x f (finite-between b refl h) b.low).1; high = root-mono x most f g b.low b.high h }

-- A point of the plane in reach, coordinate by coordinate.
pub record Reached2 (p : Point2) : Type 0 where
  pub of-x : coordinate p.x ≡ true
  pub of-y : coordinate p.y ≡ true

pub reached2 : (p : Point3) → in_reach p ≡ true → Reached2 (xy p)
unfolding xy
reached2 p h = let r = reached p h in record { of-x = r.of-x; of-y = r.of-y }

-- Between two points in reach the distance is finite, not negative, and at most √3 * 2 ^ 25, in the plane √2 * 2 ^ 25.
pub distance-reach : (p q : Point3) → in_reach p ≡ true → in_reach q ≡ true → Between nought (distance3 p q) farthest
unfolding distance3 norm3 sub3 of_bits fits
distance-reach p q hp hq =
    let a = reached p hp in
    let b = reached q hq in
    let d = sub3 p q in
    rw farthest-is
    (root-between (add-fits binary64 (d.x *ᶠ d.x +ᶠ d.y *ᶠ d.y) (d.z *ᶠ d.z)) tt refl
    (space-reach (sub-reach q.x p.x b.of-x a.of-x) (sub-reach q.y p.y b.of-y a.of-y) (sub-reach q.z p.z b.of-z a.of-z)))

pub distance2-reach : (p q : Point2) → Reached2 p → Reached2 q → Between nought (distance2 p q) flattest
unfolding distance2 norm2 sub2 of_bits fits
distance2-reach p q a b =
    let d = sub2 p q in
    rw flattest-is
    (root-between (add-fits binary64 (d.x *ᶠ d.x) (d.y *ᶠ d.y)) tt refl
    (plane-reach (sub-reach q.x p.x b.of-x a.of-x) (sub-reach q.y p.y b.of-y a.of-y)))

pub distance_2d_reach : (p q : Point3) → in_reach p ≡ true → in_reach q ≡ true → Between nought (distance_2d p q) flattest
unfolding distance_2d
distance_2d_reach p q hp hq = distance2-reach (xy p) (xy q) (reached2 p hp) (reached2 q hq)

-- The same with a power of two as the bound, and as the fact that the distance is finite.
widened : {lo x hi hi' : Float} → le hi hi' ≡ true → Between lo x hi → Between lo x hi'
widened {lo} {x} {hi} {hi'} h b = record { low = b.low; high = le_trans x hi hi' b.high h }

pub distance-far : (p q : Point3) → in_reach p ≡ true → in_reach q ≡ true → Between nought (distance3 p q) far
unfolding le of_bits
distance-far p q hp hq = widened refl (distance-reach p q hp hq)

pub distance2-far : (p q : Point2) → Reached2 p → Reached2 q → Between nought (distance2 p q) far
unfolding le of_bits
distance2-far p q a b = widened refl (distance2-reach p q a b)

pub distance_2d_far : (p q : Point3) → in_reach p ≡ true → in_reach q ≡ true → Between nought (distance_2d p q) far
unfolding le of_bits
distance_2d_far p q hp hq = widened refl (distance_2d_reach p q hp hq)

pub distance-finite : (p q : Point3) → in_reach p ≡ true → in_reach q ≡ true → finite (distance3 p q) ≡ true
unfolding of_bits
distance-finite p q hp hq = finite-between (distance-far p q hp hq) refl refl

pub distance2-finite : (p q : Point2) → Reached2 p → Reached2 q → finite (distance2 p q) ≡ true
unfolding of_bits
distance2-finite p q a b = finite-between (distance2-far p q a b) refl refl

pub distance_2d_finite : (p q : Point3) → in_reach p ≡ true → in_reach q ≡ true → finite (distance_2d p q) ≡ true
unfolding of_bits
distance_2d_finite p q hp hq = finite-between (distance_2d_far p q hp hq) refl refl
