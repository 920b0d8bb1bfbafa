-- Where every point of a line lies within ±2^24, so does every point of a line that is made of it. Assumes nothing.
use Rattle.std.specs.Prelude.{Some, Option, None}
use mathlib.Core.Path.{◌≡◌, refl, sym}
use Prim.Native.Nat.{ℕ, zero, suc, ◌-◌, ◌<◌, max}
use native.Mathlib.Omega.{arith}
use mathlib.Core.Bool.{Bool, true, false, ◌&&◌, ◌||◌, cond}
use mathlib.Core.List.{List, [], ◌∷◌, ◌++◌, reverse, zip_with}
use lib.Dec.{ltb}
use borrow.Author.Tests.{ltb-true}
use lib.Ieee.{Float, nan, inf, fin, le, lt, eq, is_nan, of_bits}
use lib.ListN.{length, get_or, drop}
use Rattle.lists.specs.Every.{all}
use Rattle.lists.proofs.Every.{all_nil, all_cons, all_head, all_tail, all_append, all_get_d, all_drop, all-reverse}
use Rattle.geometry.specs.Float.{◌+ᶠ◌, ◌-ᶠ◌, ◌/ᶠ◌, zeroᶠ, oneᶠ, halfᶠ, clamp, fraction}
use Rattle.geometry.specs.Point.{in_reach, lerp3, distance3}
use Rattle.geometry.specs.declared.Point3.{Point3}
use Rattle.geometry.proofs.Both.{both}
use Rattle.geometry.proofs.Order.{not-lt}
use Rattle.geometry.proofs.Laws.{lerp_reach}
use Rattle.polyline.specs.Polyline.{point_of, line_length, held, first, last, last_from, locate, locate_from, point_in, point_at}
use Rattle.polyline.specs.Polyline.{optional, optionally, inside, inner, between, slice, first_piece, second_piece, share}
use Rattle.polyline.specs.Polyline.{resample_from, resample_count, skipped, concat, centerline}
use Rattle.polyline.proofs.Walk.{at}

-- ---- what is held within 0 to 1 is a fraction, whatever it was

equal-number : (t : Float) → eq t t ≡ true → is_nan t ≡ false
unfolding eq is_nan
equal-number nan e = sym e
equal-number (inf s) e = refl
equal-number (fin s m k) e = refl

zero-fraction : fraction zeroᶠ ≡ true
unfolding fraction le lt eq of_bits
zero-fraction = refl

one-fraction : fraction oneᶠ ≡ true
unfolding fraction le lt eq of_bits
one-fraction = refl

half-fraction : fraction halfᶠ ≡ true
unfolding fraction le lt eq of_bits
half-fraction = refl

zero_number : is_nan zeroᶠ ≡ false
unfolding is_nan of_bits
zero_number = refl

one_number : is_nan oneᶠ ≡ false
unfolding is_nan of_bits
one_number = refl

pub held-fraction : (t : Float) → fraction (held t) ≡ true
unfolding held clamp
held-fraction t = number (eq t t) refl
  where
    middle : (b : Bool) → is_nan t ≡ false → lt t zeroᶠ ≡ false → lt oneᶠ t ≡ b → fraction (cond b oneᶠ t) ≡ true
    middle true n l e = one-fraction
    middle false n l e = unfold fraction in both (not-lt t zeroᶠ n zero_number l) (not-lt oneᶠ t one_number n e)

    low : (b : Bool) → is_nan t ≡ false → lt t zeroᶠ ≡ b → fraction (cond b zeroᶠ (cond (lt oneᶠ t) oneᶠ t)) ≡ true
    low true n e = zero-fraction
    low false n e = middle (lt oneᶠ t) n e refl

    number : (b : Bool) → eq t t ≡ b → fraction (cond b (cond (lt t zeroᶠ) zeroᶠ (cond (lt oneᶠ t) oneᶠ t)) zeroᶠ) ≡ true
    number true e = low (lt t zeroᶠ) (equal-number t e) refl
    number false e = zero-fraction

-- ---- locate

-- the fraction of a place, if it is one
abbrev sound : Option (ℕ × Float) → Bool
sound None = true
sound (Some (i, t)) = fraction t

sound-cond : (b : Bool) (l m : Option (ℕ × Float)) → sound l ≡ true → sound m ≡ true → sound (cond b l m) ≡ true
sound-cond true l m h k = h
sound-cond false l m h k = k

sound-from : (i : ℕ) (here station : Float) (p : Point3) (qs : List Point3) → sound (locate_from i here station p qs) ≡ true
unfolding locate_from
sound-from i here station p [] = one-fraction
sound-from i here station p (q ∷ qs) =
    sound-cond (le station (here +ᶠ distance3 p q) && lt zeroᶠ (distance3 p q)) (Some (i, (held ((station -ᶠ here) /ᶠ distance3 p q))))
    (locate_from (suc i) (here +ᶠ distance3 p q) station q qs) (held-fraction ((station -ᶠ here) /ᶠ distance3 p q))
    (sound-from (suc i) (here +ᶠ distance3 p q) station q qs)

sound-locate : (ps : List Point3) (station : Float) → sound (locate ps station) ≡ true
unfolding locate
sound-locate [] station = refl
sound-locate (p ∷ []) station = zero-fraction
sound-locate (p ∷ q ∷ ps) station =
    sound-cond (le station zeroᶠ) (Some (0, zeroᶠ)) (locate_from 0 zeroᶠ station p (q ∷ ps)) zero-fraction (sound-from 0 zeroᶠ station p (q ∷ ps))

pub locate-fraction : (ps : List Point3) (station : Float) (i : ℕ) (t : Float) → locate ps station ≡ Some (i, t) → fraction t ≡ true
locate-fraction ps station i t e = rw e at (sound-locate ps station)

-- ---- points, one by one

pub first_reach : (ps : List Point3) → all in_reach ps ≡ true → all in_reach (optional (first ps)) ≡ true
unfolding first
first_reach [] h = h
first_reach (p ∷ ps) h = all_cons in_reach p [] (all_head in_reach p ps h) (all_nil in_reach)

last-from-reach : (p : Point3) (ps : List Point3) → all in_reach (p ∷ ps) ≡ true → in_reach (last_from p ps) ≡ true
unfolding last_from
last-from-reach p [] h = all_head in_reach p [] h
last-from-reach p (q ∷ ps) h = last-from-reach q ps (all_tail in_reach p (q ∷ ps) h)

pub last-reach : (ps : List Point3) → all in_reach ps ≡ true → all in_reach (optional (last ps)) ≡ true
unfolding last
last-reach [] h = h
last-reach (p ∷ ps) h = all_cons in_reach (last_from p ps) [] (last-from-reach p ps h) (all_nil in_reach)

in_reach_lem : (ps : List Point3) (l : Option (ℕ × Float)) → all in_reach ps ≡ true → sound l ≡ true → all in_reach (optional (point_in ps l)) ≡ true
unfolding point_in
in_reach_lem ps None h k = all_nil in_reach
in_reach_lem ps (Some (i, t)) h k = go (ltb (suc i) (length ps)) refl
  where
    go : (b : Bool) → ltb (suc i) (length ps) ≡ b
        → all in_reach (optional (cond b (Some (lerp3 (get_or ps i (point_of [])) (get_or ps (suc i) (point_of [])) t)) (last ps))) ≡ true
    go true e =
        let l : suc i < length ps = ltb-true (suc i) (length ps) e in
        all_cons in_reach (lerp3 (at ps i) (at ps (suc i)) t) []
        (lerp_reach (at ps i) (at ps (suc i)) t (all_get_d in_reach ps i (point_of []) (omega arith) h) (all_get_d in_reach ps (suc i) (point_of []) l h) k) (all_nil in_reach)
    go false e = last-reach ps h

pub point-at-reach : (ps : List Point3) (station : Float) → all in_reach ps ≡ true → all in_reach (optional (point_at ps station)) ≡ true
unfolding point_at
point-at-reach ps station h = in_reach_lem ps (locate ps station) h (sound-locate ps station)

-- ---- slice, and the two pieces of a split

optionally-reach : (b : Bool) (p : Point3) → in_reach p ≡ true → all in_reach (optionally b p) ≡ true
optionally-reach true p h = all_cons in_reach p [] h (all_nil in_reach)
optionally-reach false p h = all_nil in_reach

inner-reach : (from to here : Float) (p : Point3) (qs : List Point3) → all in_reach qs ≡ true → all in_reach (inner from to here p qs) ≡ true
unfolding inner
inner-reach from to here p [] h = all_nil in_reach
inner-reach from to here p (q ∷ qs) h =
    all_append in_reach (optionally (inside from to (here +ᶠ distance3 p q)) q) (inner from to (here +ᶠ distance3 p q) q qs)
    (optionally-reach (inside from to (here +ᶠ distance3 p q)) q (all_head in_reach q qs h))
    (inner-reach from to (here +ᶠ distance3 p q) q qs (all_tail in_reach q qs h))

pub between-reach : (from to : Float) (ps : List Point3) → all in_reach ps ≡ true → all in_reach (between from to ps) ≡ true
unfolding between
between-reach from to [] h = h
between-reach from to (p ∷ ps) h = inner-reach from to zeroᶠ p ps (all_tail in_reach p ps h)

all-cond : (b : Bool) (l m : List Point3) → all in_reach l ≡ true → all in_reach m ≡ true → all in_reach (cond b l m) ≡ true
all-cond true l m h k = h
all-cond false l m h k = k

pub slice-reach : (ps : List Point3) (from to : Float) → all in_reach ps ≡ true → all in_reach (slice ps from to) ≡ true
unfolding slice
slice-reach ps from to h =
    let a = clamp from zeroᶠ (line_length ps) in
    let b = clamp to zeroᶠ (line_length ps) in
    let pa = optional (point_at ps a) in
    let pb = optional (point_at ps b) in
    let start = point-at-reach ps a h in
    all-cond (ltb (length ps) 2 || le b a) pa (pa ++ (between a b ps ++ pb)) start
    (all_append in_reach pa (between a b ps ++ pb) start (all_append in_reach (between a b ps) pb (between-reach a b ps h) (point-at-reach ps b h)))

pub first-piece-reach : (ps : List Point3) (station : Float) → all in_reach ps ≡ true → all in_reach (first_piece ps station) ≡ true
unfolding first_piece
first-piece-reach ps station h = slice-reach ps zeroᶠ station h

pub second-piece-reach : (ps : List Point3) (station : Float) → all in_reach ps ≡ true → all in_reach (second_piece ps station) ≡ true
unfolding second_piece
second-piece-reach ps station h = slice-reach ps station (line_length ps) h

-- ---- resample, concat, reverse, centerline

resample_from-reach : (ps : List Point3) (parts i k : ℕ) → all in_reach ps ≡ true → all in_reach (resample_from ps parts i k) ≡ true
unfolding resample_from
resample_from-reach ps parts i zero h = all_nil in_reach
resample_from-reach ps parts i (suc k) h =
    all_append in_reach (optional (point_at ps (share (line_length ps) i parts))) (resample_from ps parts (suc i) k)
    (point-at-reach ps (share (line_length ps) i parts) h) (resample_from-reach ps parts (suc i) k h)

pub resample_reach : (ps : List Point3) (n : ℕ) → all in_reach ps ≡ true → all in_reach (resample_count ps n) ≡ true
unfolding resample_count
resample_reach ps n h = resample_from-reach ps (max n 2 - 1) 0 (max n 2) h

pub concat-reach : (join : Float) (ps qs : List Point3) → all in_reach ps ≡ true → all in_reach qs ≡ true → all in_reach (concat join ps qs) ≡ true
unfolding concat
concat-reach join ps qs h k = all_append in_reach ps (drop (skipped join ps qs) qs) h (all_drop in_reach (skipped join ps qs) qs k)

pub reverse-reach : (ps : List Point3) → all in_reach ps ≡ true → all in_reach (reverse ps) ≡ true
reverse-reach ps h = all-reverse in_reach ps h

halves-reach : (l m : List Point3) → all in_reach l ≡ true → all in_reach m ≡ true → all in_reach (zip_with (λ a b. lerp3 a b halfᶠ) l m) ≡ true
unfolding zip_with
halves-reach [] m h k = h
halves-reach (p ∷ l) [] h k = k
halves-reach (p ∷ l) (q ∷ m) h k =
    all_cons in_reach (lerp3 p q halfᶠ) (zip_with (λ a b. lerp3 a b halfᶠ) l m)
    (lerp_reach p q halfᶠ (all_head in_reach p l h) (all_head in_reach q m k) half-fraction) (halves-reach l m (all_tail in_reach p l h) (all_tail in_reach q m k))

pub centerline-reach : (ps qs : List Point3) → all in_reach ps ≡ true → all in_reach qs ≡ true → all in_reach (centerline ps qs) ≡ true
unfolding centerline
centerline-reach [] qs h k = h
centerline-reach (p ∷ ps) [] h k = k
centerline-reach (p ∷ ps) (q ∷ qs) h k =
    let n = max (length (p ∷ ps)) (length (q ∷ qs)) in
    halves-reach (resample_count (p ∷ ps) n) (resample_count (q ∷ qs) n) (resample_reach (p ∷ ps) n h) (resample_reach (q ∷ qs) n k)
