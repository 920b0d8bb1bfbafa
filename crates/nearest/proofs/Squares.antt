-- A root keeps the order, so that squares tell which point is not nearer. Assumes nothing.
use mathlib.Core.Path.{◌≡◌, refl, sym, subst, ap, ◌∙◌}
use Prim.Native.Nat.{ℕ}
use mathlib.Core.Bool.{Bool, true, false, cond}
use lib.Dec.{T}
use lib.Ieee.{Float, nan, inf, fin, binary64, fits, lt, le}
use lib.Ieee.Scale.{finite}
use Rattle.root.specs.Root.{root}
use Rattle.root.proofs.Nearest.{root-mono}
use Rattle.geometry.specs.Float.{◌-ᶠ◌, zeroᶠ, epsilon}
use Rattle.geometry.specs.Point.{distance2, norm2, dot2, lerp3, project_on_segment, xy}
use Rattle.geometry.specs.declared.Point2.{Point2}
use Rattle.geometry.specs.declared.Point3.{Point3}
use Rattle.geometry.proofs.Order.{le_trans, le_not_lt}
use Rattle.polyline.specs.Polyline.{nearer, candidate}
use Rattle.polyline.specs.declared.NearestPoint.{NearestPoint}
use Rattle.nearest.specs.Square.{square}

-- a distance is the root of its square
pub square-root : (p : Point3) (to : Point2) → distance2 (xy p) to ≡ root (square p to)
square-root p to = unfold distance2 norm2 square dot2 in refl

-- an infinite distance is below nothing
infinite : (y : Float) → lt (inf false) y ≡ false
unfolding lt
infinite nan = refl
infinite (inf t) = refl
infinite (fin t n d) = refl

-- what is at least a square is, as a root, at least its root
farther_finite : (best least next : Float) → T (fits binary64 least) → T (fits binary64 next) → finite next ≡ true → best ≡ root least → le (best -ᶠ epsilon) best ≡ true → le zeroᶠ least ≡ true → le least next ≡ true → lt (root next) (best -ᶠ epsilon) ≡ false
farther_finite best least next f g k e h p q =
    le_not_lt (best -ᶠ epsilon) (root next) (le_trans (best -ᶠ epsilon) best (root next) h (subst (λ (b : Float). le b (root next) ≡ true) (sym e) (root-mono least next f g p q k)))

pub farther : (best least next : Float) → T (fits binary64 least) → T (fits binary64 next) → best ≡ root least → le (best -ᶠ epsilon) best ≡ true → le zeroᶠ least ≡ true → le least next ≡ true → lt (root next) (best -ᶠ epsilon) ≡ false
unfolding root
farther best least nan f g e h p q = unfold lt in refl
farther best least (inf true) f g e h p q = unfold lt in refl
farther best least (inf false) f g e h p q = infinite (best -ᶠ epsilon)
farther best least (fin s m d) f g e h p q = farther_finite best least (fin s m d) f g refl e h p q

-- what is not nearer leaves the best as it is
pub stays : (best next : NearestPoint) → lt next.distance (best.distance -ᶠ epsilon) ≡ false → nearer best next ≡ best
unfolding nearer
stays best next h = rw h refl

-- nor does a segment whose square tells so
pub skipped : (i : ℕ) (at : Float) (to : Point2) (p q : Point3) (best : NearestPoint) (on : Point3) (next : Float) → on ≡ lerp3 p q (project_on_segment to (xy p) (xy q)) → next ≡ square on to → lt (root next) (best.distance -ᶠ epsilon) ≡ false → best ≡ nearer best (candidate i at to p q)
unfolding candidate
skipped i at to p q best on next o n h =
    let d : root next ≡ (candidate i at to p q).distance = ap root n ∙ (sym (square-root on to) ∙ ap (λ (z : Point3). distance2 (xy z) to) o) in
    sym (stays best (candidate i at to p q) (subst (λ (z : Float). lt z (best.distance -ᶠ epsilon) ≡ false) d h))

-- the best so far is at the distance of its point
pub kept : (to : Point2) (best next : NearestPoint) → best.distance ≡ distance2 (xy best.point) to → next.distance ≡ distance2 (xy next.point) to → (nearer best next).distance ≡ distance2 (xy (nearer best next).point) to
unfolding nearer
kept to best next h k = go (lt next.distance (best.distance -ᶠ epsilon))
  where
    go : (b : Bool) → (cond b next best).distance ≡ distance2 (xy (cond b next best).point) to
    go true = k
    go false = h

pub offers : (i : ℕ) (at : Float) (to : Point2) (p q : Point3) → (candidate i at to p q).distance ≡ distance2 (xy (candidate i at to p q).point) to
unfolding candidate
offers i at to p q = refl
