-- A line in lent memory: its points, one by one and in parts, and back. Assumes nothing.
use mathlib.Core.Path.{◌≡◌, refl, ◌∙◌}
use Prim.Native.Nat.{ℕ, ◌+◌, ◌-◌, ◌*◌, ◌/◌, ◌≤◌, ◌<◌}
use native.Mathlib.Nat.{add-zero}
use native.Mathlib.Omega.{arith}
use mathlib.Core.List.{List, [], ◌∷◌, ◌++◌}
use lib.Ieee.{Float, nan}
use lib.ListN.{length, get_or, take, drop, length-drop}
use lib.Seq.{get_or-take, get_or-drop, length-take-le, take_at}
use Rattle.lists.specs.Rows.{reads, over}
use Rattle.lists.proofs.Rows.{length_over, length-reads, get_d_reads, drop-reads, take-reads, reads-take, over-nil, over-over, drop-from-over, take-over}
use Rattle.geometry.specs.declared.Point3.{Point3}
use Rattle.polyline.specs.Polyline.{point_of, points, flat}

pub length-points : (w : List Float) → length (points w) ≡ length w / 3
unfolding points
length-points w = length-reads 3 point_of (length w / 3) w

-- a point's coordinates lie within the part
pub points-room : (w : List Float) (i : ℕ) → i < length (points w) → i * 3 + 3 ≤ length w
points-room w i h = omega (arith, length-points w)

pub get_d_points : (w : List Float) (i : ℕ) (d : Point3) → i < length (points w)
    → get_or (points w) i d ≡ record { x = get_or w (i * 3) nan; y = get_or w (i * 3 + 1) nan; z = get_or w (i * 3 + 2) nan }
unfolding points point_of
get_d_points w i d h =
    let k : i < length w / 3 = omega (arith, length-points w) in
    get_d_reads 3 point_of (length w / 3) i w d k
    ∙ rw (
      get_or-take 3 (drop (i * 3) w) 0 nan (omega arith),
      get_or-take 3 (drop (i * 3) w) 1 nan (omega arith),
      get_or-take 3 (drop (i * 3) w) 2 nan (omega arith),
      get_or-drop (i * 3) w 0 nan,
      get_or-drop (i * 3) w 1 nan,
      get_or-drop (i * 3) w 2 nan,
      add-zero,
    )

-- ---- flat

pub length-flat : (ps : List Point3) → length (flat ps) ≡ length ps * 3
unfolding flat
length-flat [] = refl
length-flat (p ∷ ps) = omega (arith, length-flat ps)

pub flat_append : (a b : List Point3) → flat (a ++ b) ≡ flat a ++ flat b
unfolding flat
flat_append [] b = refl
flat_append (p ∷ a) b = rw (flat_append a b)

reads-flat : (ps : List Point3) → reads 3 point_of (length ps) (flat ps) ≡ ps
unfolding reads flat point_of
reads-flat [] = refl
reads-flat (p ∷ ps) = rw (reads-flat ps)

pub points-flat : (ps : List Point3) → points (flat ps) ≡ ps
unfolding points
points-flat ps =
    let e : length (flat ps) / 3 ≡ length ps = omega (arith, length-flat ps) in
    rw e (reads-flat ps)

-- ---- the first n points, and those from number n on

pub points-take : (n : ℕ) (w : List Float) → n * 3 ≤ length w → points (take (n * 3) w) ≡ take n (points w)
unfolding points
points-take n w h =
    let e : length (take (n * 3) w) / 3 ≡ n = omega (arith, length-take-le (n * 3) w h) in
    let k : n ≤ length w / 3 = omega arith in
    let l : n * 3 ≤ n * 3 = omega arith in
    rw (e, reads-take 3 point_of n (n * 3) w l, take-reads 3 point_of n (length w / 3) w k)

pub points-drop : (n : ℕ) (w : List Float) → points (drop (n * 3) w) ≡ drop n (points w)
unfolding points
points-drop n w =
    let e : (length w - n * 3) / 3 ≡ length w / 3 - n = omega arith in
    rw (length-drop, e, drop-reads 3 point_of n (length w / 3) w)

-- ---- what a writer leaves: its points, read back from the front, and one list behind another

pub points-over : (w : List Float) (ps : List Point3) → length ps * 3 ≤ length w → points (take (length ps * 3) (over w 0 (flat ps))) ≡ ps
points-over w ps h =
    let e : 0 + length (flat ps) ≡ length ps * 3 = omega (arith, length-flat ps) in
    let g : 0 + length (flat ps) ≤ length w = omega arith in
    rw (← e, take-over w 0 (flat ps) g) (points-flat ps)

pub over-flat : (w : List Float) (k n : ℕ) (a b : List Point3) → k + length a ≡ n → n * 3 ≤ length w
    → over (over w (k * 3) (flat a)) (n * 3) (flat b) ≡ over w (k * 3) (flat (a ++ b))
over-flat w k n a b e h =
    let f : k * 3 + length (flat a) ≡ n * 3 = omega (arith, length-flat a) in
    rw flat_append (over-over w (k * 3) (n * 3) (flat a) (flat b) f h)

pub over_none : (w : List Float) (k : ℕ) → over w (k * 3) (flat []) ≡ w
unfolding flat
over_none w k = over-nil w (k * 3)

pub length-over-flat : (w : List Float) (k : ℕ) (a : List Point3) → (k + length a) * 3 ≤ length w → length (over w (k * 3) (flat a)) ≡ length w
length-over-flat w k a h = length_over w (k * 3) (flat a) (omega (arith, length-flat a))

-- the same of a line that was written from place k on
pub points-over-from : (w : List Float) (k : ℕ) (ps : List Point3) → k * 3 ≤ length w
    → points (take (length ps * 3) (drop (k * 3) (over w (k * 3) (flat ps)))) ≡ ps
points-over-from w k ps h =
    rw (drop-from-over w (k * 3) (flat ps) h, take_at (flat ps) (drop (k * 3 + length (flat ps)) w) (length ps * 3) (length-flat ps)) (points-flat ps)
