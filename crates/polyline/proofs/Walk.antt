-- The reading functions, a point at a time: how each begins, takes a step and ends. Assumes nothing.
use Rattle.std.specs.Prelude.{None, Some, Option}
use mathlib.Core.Path.{◌≡◌, refl, ap}
use Prim.Native.Nat.{ℕ, suc, ◌+◌, ◌-◌, ◌≤◌, ◌<◌}
use native.Mathlib.Numerals.{add-one}
use native.Mathlib.Omega.{arith}
use mathlib.Core.Bool.{Bool, true, false, ◌&&◌, cond}
use mathlib.Core.List.{List, [], ◌∷◌}
use lib.Ieee.{Float, lt, le}
use lib.ListN.{length, get_or, drop, drop_of_length-le}
use lib.Seq.{drop-cons}
use borrow.Author.Tests.{lt-ltb, le-ltb}
use Rattle.geometry.specs.Float.{◌+ᶠ◌, ◌-ᶠ◌, ◌/ᶠ◌, zeroᶠ, oneᶠ}
use Rattle.geometry.specs.Point.{xy, distance2, distance3, lerp3}
use Rattle.geometry.specs.declared.Point2.{Point2}
use Rattle.geometry.specs.declared.Point3.{Point3}
use Rattle.polyline.specs.declared.NearestPoint.{NearestPoint}
use Rattle.polyline.specs.Polyline.{point_of, first, last, last_from, line_length, length_from, minus_zero, held, locate, locate_from}
use Rattle.polyline.specs.Polyline.{candidate, nearer, nearest_point, nearest_from, point_at, point_in}

-- point i, as the code reads it
abbrev pub at : List Point3 → ℕ → Point3
at ps i = get_or ps i (point_of [])

-- ---- what is left of a line: at its end nothing, before that its next point and what is left behind it

pub left-none : (ps : List Point3) (i : ℕ) → length ps ≤ i → drop i ps ≡ []
left-none ps i h = drop_of_length-le ps h

pub left-more : (ps : List Point3) (i : ℕ) → i < length ps → drop i ps ≡ at ps i ∷ drop (i + 1) ps
left-more ps i h = rw add-one (drop-cons ps i (point_of []) h)

-- a line of no point, and of one
pub no-point : (ps : List Point3) → length ps ≡ 0 → ps ≡ []
no-point [] h = refl
no-point (p ∷ ps) h = absurd (omega arith)

pub one-point : (ps : List Point3) → length ps ≡ 1 → ps ≡ at ps 0 ∷ []
one-point [] h = absurd (omega arith)
one-point (p ∷ []) h = refl
one-point (p ∷ q ∷ ps) h = absurd (omega arith)

-- ---- first, last

pub first-none : (ps : List Point3) → length ps ≡ 0 → None ≡ first ps
unfolding first
first-none ps h = rw (no-point ps h)

pub first_some : (ps : List Point3) → 0 < length ps → Some (at ps 0) ≡ first ps
unfolding first
first_some [] h = absurd (omega arith)
first_some (p ∷ ps) h = refl

pub last_none : (ps : List Point3) → length ps ≡ 0 → None ≡ last ps
unfolding last
last_none ps h = rw (no-point ps h)

pub last-at : (p : Point3) (ps : List Point3) → at (p ∷ ps) (length ps) ≡ last_from p ps
unfolding last_from
last-at p [] = refl
last-at p (q ∷ ps) = last-at q ps

pub last_some : (ps : List Point3) → 0 < length ps → Some (at ps (length ps - 1)) ≡ last ps
unfolding last
last_some [] h = absurd (omega arith)
last_some (p ∷ ps) h = let e : suc (length ps) - 1 ≡ length ps = omega arith in rw (e, last-at)

-- ---- length

pub length_none : (ps : List Point3) → length ps ≡ 0 → minus_zero ≡ line_length ps
unfolding line_length
length_none ps h = rw (no-point ps h)

pub length-begins : (ps : List Point3) → 0 < length ps → line_length ps ≡ length_from minus_zero (at ps 0) (drop 1 ps)
unfolding line_length
length-begins [] h = absurd (omega arith)
length-begins (p ∷ ps) h = refl

module _ (ps : List Point3) (i : ℕ) (sum : Float) (p : Point3) where
  pub length-goes : i < length ps → length_from sum p (drop i ps) ≡ length_from (sum +ᶠ distance3 p (at ps i)) (at ps i) (drop (i + 1) ps)
  unfolding length_from
  length-goes h = rw (left-more ps i h)

  pub length-ends : length ps ≤ i → length_from sum p (drop i ps) ≡ sum
  unfolding length_from
  length-ends h = rw (left-none ps i h)

-- ---- locate

pub locate-none : (ps : List Point3) (station : Float) → length ps ≡ 0 → None ≡ locate ps station
unfolding locate
locate-none ps station h = rw (no-point ps h)

pub locate-one : (ps : List Point3) (station : Float) → length ps ≡ 1 → Some (0, zeroᶠ) ≡ locate ps station
unfolding locate
locate-one ps station h = rw (one-point ps h)

pub locate-before : (ps : List Point3) (station : Float) → 1 < length ps → le station zeroᶠ ≡ true → Some (0, zeroᶠ) ≡ locate ps station
unfolding locate
locate-before [] station h t = absurd (omega arith)
locate-before (p ∷ []) station h t = absurd (omega arith)
locate-before (p ∷ q ∷ ps) station h t = rw t

pub locate-begins : (ps : List Point3) (station : Float) → 1 < length ps → le station zeroᶠ ≡ false
    → locate ps station ≡ locate_from 0 zeroᶠ station (at ps 0) (drop 1 ps)
unfolding locate
locate-begins [] station h t = absurd (omega arith)
locate-begins (p ∷ []) station h t = absurd (omega arith)
locate-begins (p ∷ q ∷ ps) station h t = rw t

module _ (ps : List Point3) (i : ℕ) (here station : Float) (p : Point3) where
  pub locate-found : i + 1 < length ps → le station (here +ᶠ distance3 p (at ps (i + 1))) ≡ true → lt zeroᶠ (distance3 p (at ps (i + 1))) ≡ true
      → locate_from i here station p (drop (i + 1) ps) ≡ Some (i, (held ((station -ᶠ here) /ᶠ distance3 p (at ps (i + 1)))))
  unfolding locate_from
  locate-found h t u = rw (left-more ps (i + 1) h, t, u)

  pub locate-goes : i + 1 < length ps
      → (le station (here +ᶠ distance3 p (at ps (i + 1))) && lt zeroᶠ (distance3 p (at ps (i + 1)))) ≡ false
      → locate_from i here station p (drop (i + 1) ps)
      ≡ locate_from (i + 1) (here +ᶠ distance3 p (at ps (i + 1))) station (at ps (i + 1)) (drop (i + 1 + 1) ps)
  unfolding locate_from
  locate-goes h t = rw (left-more ps (i + 1) h, t, ← add-one i)

  pub locate-ends : length ps ≤ i + 1 → locate_from i here station p (drop (i + 1) ps) ≡ Some ((i - 1), oneᶠ)
  unfolding locate_from
  locate-ends h = rw (left-none ps (i + 1) h)

-- ---- nearest_point

pub nearest-none : (ps : List Point3) (to : Point2) → length ps ≡ 0 → None ≡ nearest_point ps to
unfolding nearest_point
nearest-none ps to h = rw (no-point ps h)

pub nearest-one : (ps : List Point3) (to : Point2) → length ps ≡ 1
    → Some (record { point = at ps 0; distance = distance2 (xy (at ps 0)) to; station = zeroᶠ; segment = 0 }) ≡ nearest_point ps to
unfolding nearest_point
nearest-one [] to h = absurd (omega arith)
nearest-one (p ∷ []) to h = refl
nearest-one (p ∷ q ∷ ps) to h = absurd (omega arith)

pub nearest-begins : (ps : List Point3) (to : Point2) → 1 < length ps → nearest_point ps to
    ≡ Some (nearest_from 1 (zeroᶠ +ᶠ distance3 (at ps 0) (at ps 1)) to (candidate 0 zeroᶠ to (at ps 0) (at ps 1)) (at ps 1) (drop 2 ps))
unfolding nearest_point
nearest-begins [] to h = absurd (omega arith)
nearest-begins (p ∷ []) to h = absurd (omega arith)
nearest-begins (p ∷ q ∷ ps) to h = refl

module _ (ps : List Point3) (i : ℕ) (here : Float) (to : Point2) (best : NearestPoint) (p : Point3) where
  nearest-step : i + 1 < length ps → nearest_from i here to best p (drop (i + 1) ps)
      ≡ nearest_from (suc i) (here +ᶠ distance3 p (at ps (i + 1))) to (nearer best (candidate i here to p (at ps (i + 1)))) (at ps (i + 1)) (drop (i + 1 + 1) ps)
  unfolding nearest_from
  nearest-step h = rw (left-more ps (i + 1) h)

  pub nearest-goes : i + 1 < length ps → nearest_from i here to best p (drop (i + 1) ps)
      ≡ nearest_from (i + 1) (here +ᶠ distance3 p (at ps (i + 1))) to (nearer best (candidate i here to p (at ps (i + 1)))) (at ps (i + 1)) (drop (i + 1 + 1) ps)
  nearest-goes h = rw (nearest-step h, ← add-one i)

  pub nearest-ends : length ps ≤ i + 1 → nearest_from i here to best p (drop (i + 1) ps) ≡ best
  unfolding nearest_from
  nearest-ends h = rw (left-none ps (i + 1) h)

-- ---- point_at

-- the segment of a place
abbrev segment : Option (ℕ × Float) → ℕ
segment None = 0
segment (Some (i, t)) = i

segment-cond : (b : Bool) (l m : Option (ℕ × Float)) (n : ℕ) → segment l ≤ n → segment m ≤ n → segment (cond b l m) ≤ n
segment-cond true l m n h k = h
segment-cond false l m n h k = k

segment-from : (i : ℕ) (here station : Float) (p : Point3) (qs : List Point3) → segment (locate_from i here station p qs) ≤ i - 1 + length qs
unfolding locate_from
segment-from i here station p [] = omega arith
segment-from i here station p (q ∷ qs) =
    segment-cond (le station (here +ᶠ distance3 p q) && lt zeroᶠ (distance3 p q)) (Some (i, (held ((station -ᶠ here) /ᶠ distance3 p q))))
    (locate_from (suc i) (here +ᶠ distance3 p q) station q qs) (i - 1 + suc (length qs)) (omega arith)
    (omega (arith, segment-from (suc i) (here +ᶠ distance3 p q) station q qs))

-- a place lies on the line
pub locate-inside : (ps : List Point3) (station : Float) (i : ℕ) (t : Float) → locate ps station ≡ Some (i, t) → i < length ps
unfolding locate
locate-inside [] station i t e = absurd (let z : ◌≡◌ {A = ℕ} 0 1 = cc in omega arith)
locate-inside (p ∷ []) station i t e = omega (arith, ap segment e)
locate-inside (p ∷ q ∷ ps) station i t e =
    omega (
      arith,
      ap segment e,
      segment-cond (le station zeroᶠ) (Some (0, zeroᶠ)) (locate_from 0 zeroᶠ station p (q ∷ ps)) (suc (length ps)) (omega arith)
          (omega (arith, segment-from 0 zeroᶠ station p (q ∷ ps))),
    )

pub point-at-none : (ps : List Point3) (station : Float) → locate ps station ≡ None → None ≡ point_at ps station
unfolding point_at point_in
point-at-none ps station e = rw e

module _ (ps : List Point3) (station : Float) (i : ℕ) (t : Float) (e : locate ps station ≡ Some (i, t)) where
  pub point-at_in : i + 1 < length ps → Some (lerp3 (at ps i) (at ps (i + 1)) t) ≡ point_at ps station
  unfolding point_at point_in
  point-at_in h = rw (e, ← add-one i, lt-ltb (i + 1) (length ps) h)

  pub point-at-last : length ps ≤ i + 1 → last ps ≡ point_at ps station
  unfolding point_at point_in
  point-at-last h = rw (e, ← add-one i, le-ltb (i + 1) (length ps) h)
