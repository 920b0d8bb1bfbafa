-- The lines that are made: how many points they have, and how a writer goes on, a piece at a time. Assumes nothing.
use Rattle.std.specs.Prelude.{Option, None, Some}
use mathlib.Core.Path.{◌≡◌, refl, sym, ap, ◌∙◌}
use Prim.Native.Nat.{ℕ, zero, suc, ◌+◌, ◌-◌, ◌*◌, ◌≤◌, ◌<◌, max}
use native.Mathlib.Nat.{add-zero}
use mathlib.Core.Logic.{◌⊎◌, inl, inr}
use native.Mathlib.Numerals.{add-one}
use native.Mathlib.Omega.{arith}
use mathlib.Core.Bool.{Bool, true, false, ◌&&◌, cond}
use mathlib.Core.List.{List, [], ◌∷◌, ◌++◌, append_assoc, append-nil, reverse, reverse-append, zip_with}
use borrow.Author.Tests.{lt-ltb, le-ltb}
use lib.Dec.{ltb}
use lib.Ieee.{Float, le, lt}
use lib.ListN.{length, take, drop, length-append, length-drop}
use lib.Seq.{take-suc, take-length, take_all, drop-length}
use borrow.Rule.Slice.PartMut.{mid_of, post_of, put_mid, Post-is}
use Rattle.lists.proofs.Rows.{over-part}
use Rattle.lists.specs.Rows.{over}
use Rattle.geometry.specs.Float.{◌+ᶠ◌, zeroᶠ, halfᶠ, clamp}
use Rattle.geometry.specs.Point.{distance3, lerp3}
use Rattle.geometry.specs.declared.Point3.{Point3}
use Rattle.polyline.specs.Polyline.{point_of, flat, first, last, line_length, locate, locate_from, point_in, point_at}
use Rattle.polyline.specs.Polyline.{optional, optionally, inside, inner, between, slice, share, resample_from, resample_count}
use Rattle.polyline.specs.Polyline.{skipped, meeting, concat, middle, centerline}
use Rattle.polyline.proofs.Points.{over-flat, over_none, length-over-flat}
use Rattle.polyline.proofs.Walk.{at, left-none, left-more, no-point, last_some}

-- ---- a writer: w, with the points that are left written from place k on, is what the whole line makes of the w₀ at the entry

pub record Left (w₀ w : List Float) (k₀ k : ℕ) (line rest : List Point3) : Type 0 where
  pub total : k + length rest ≡ k₀ + length line
  pub same : length w ≡ length w₀
  pub gives : over w (k * 3) (flat rest) ≡ over w₀ (k₀ * 3) (flat line)

pub begins : (w : List Float) (k : ℕ) (line : List Point3) → Left w w k k line line
begins w k line = record { total = refl; same = refl; gives = refl }

module _ (w₀ w : List Float) (k₀ k : ℕ) (line a b : List Point3) (room : (k₀ + length line) * 3 ≤ length w₀) (l : Left w₀ w k₀ k line (a ++ b)) where
  -- there is room for the next piece
  pub fits_more : (k + length a) * 3 ≤ length w
  fits_more = omega (arith, l.total, l.same, length-append a b)

  -- it is written
  pub goes_on : (n : ℕ) → k + length a ≡ n → Left w₀ (over w (k * 3) (flat a)) k₀ n line b
  goes_on n e = record {
    total = omega (arith, l.total, length-append a b);
    same = length-over-flat w k a fits_more ∙ l.same;
    gives = over-flat w k n a b e (omega (arith, fits_more)) ∙ l.gives;
  }

-- nothing is left
pub ends : (w₀ w : List Float) (k₀ k : ℕ) (line : List Point3) → Left w₀ w k₀ k line [] → w ≡ over w₀ (k₀ * 3) (flat line)
ends w₀ w k₀ k line l = sym (over_none w k) ∙ l.gives

-- ---- at most one point

pub optional-few : (p : Option Point3) → length (optional p) ≤ 1
optional-few None = omega arith
optional-few (Some p) = omega arith

pub optionally-few : (b : Bool) (p : Point3) → length (optionally b p) ≤ 1
optionally-few true p = omega arith
optionally-few false p = omega arith

-- f were counted, the next piece has one point or none
pub counts-on : (b : Bool) (q : Point3) (n f g : ℕ) (l rest : List Point3) → n ≡ f + length l → l ≡ optionally b q ++ rest → g ≡ f + length (optionally b q)
    → n ≡ g + length rest
counts-on b q n f g l rest h e k = omega (arith, ap length e, length-append (optionally b q) rest)

-- ---- a line of some points has a point at every station

abbrev placed : Option (ℕ × Float) → Bool
placed None = false
placed (Some (i, t)) = true

placed-cond : (b : Bool) (l m : Option (ℕ × Float)) → placed l ≡ true → placed m ≡ true → placed (cond b l m) ≡ true
placed-cond true l m h k = h
placed-cond false l m h k = k

placed-from : (i : ℕ) (here station : Float) (p : Point3) (qs : List Point3) → placed (locate_from i here station p qs) ≡ true
unfolding locate_from
placed-from i here station p [] = refl
placed-from i here station p (q ∷ qs) =
    placed-cond (le station (here +ᶠ distance3 p q) && lt zeroᶠ (distance3 p q)) _ (locate_from (suc i) (here +ᶠ distance3 p q) station q qs) refl
    (placed-from (suc i) (here +ᶠ distance3 p q) station q qs)

pub located : (ps : List Point3) (station : Float) → 0 < length ps → placed (locate ps station) ≡ true
unfolding locate
located [] station h = absurd (omega arith)
located (p ∷ []) station h = refl
located (p ∷ q ∷ ps) station h = placed-cond (le station zeroᶠ) (Some (0, zeroᶠ)) (locate_from 0 zeroᶠ station p (q ∷ ps)) refl (placed-from 0 zeroᶠ station p (q ∷ ps))

one-cond : (b : Bool) (p q : Option Point3) → length (optional p) ≡ 1 → length (optional q) ≡ 1 → length (optional (cond b p q)) ≡ 1
one-cond true p q h k = h
one-cond false p q h k = k

in_one : (ps : List Point3) (l : Option (ℕ × Float)) → 0 < length ps → placed l ≡ true → length (optional (point_in ps l)) ≡ 1
unfolding point_in
in_one ps None h e = absurd (let z : ◌≡◌ {A = ℕ} 0 1 = cc in omega arith)
in_one ps (Some (i, t)) h e = one-cond (ltb (suc i) (length ps)) _ (last ps) refl (rw (← last_some ps h))

pub point-at-one : (ps : List Point3) (station : Float) → 0 < length ps → length (optional (point_at ps station)) ≡ 1
unfolding point_at
point-at-one ps station h = in_one ps (locate ps station) h (located ps station h)

pub point-at-empty : (ps : List Point3) (station : Float) → length ps ≡ 0 → point_at ps station ≡ None
unfolding point_at locate point_in
point-at-empty ps station h = rw (no-point ps h)

-- ---- the points between two stations

module _ (from to : Float) where
  pub length-inner : (here : Float) (p : Point3) (qs : List Point3) → length (inner from to here p qs) ≤ length qs
  unfolding inner
  length-inner here p [] = omega arith
  length-inner here p (q ∷ qs) =
      few (inside from to (here +ᶠ distance3 p q)) q (inner from to (here +ᶠ distance3 p q) q qs) (length qs) (length-inner (here +ᶠ distance3 p q) q qs)
    where
      few : (b : Bool) (q : Point3) (l : List Point3) (n : ℕ) → length l ≤ n → length (optionally b q ++ l) ≤ suc n
      few true q l n h = omega arith
      few false q l n h = omega arith

  pub between_none : (ps : List Point3) → length ps ≡ 0 → between from to ps ≡ []
  unfolding between
  between_none ps h = rw (no-point ps h)

  pub between-begins : (ps : List Point3) → 0 < length ps → between from to ps ≡ inner from to zeroᶠ (at ps 0) (drop 1 ps)
  unfolding between
  between-begins [] h = absurd (omega arith)
  between-begins (p ∷ ps) h = refl

  pub length-between : (ps : List Point3) → length (between from to ps) ≤ length ps
  unfolding between
  length-between [] = omega arith
  length-between (p ∷ ps) = omega (arith, length-inner zeroᶠ p ps)

  module _ (ps : List Point3) (i : ℕ) (here : Float) (p : Point3) where
    pub inner-goes : i < length ps → inner from to here p (drop i ps)
        ≡ optionally (inside from to (here +ᶠ distance3 p (at ps i))) (at ps i) ++ inner from to (here +ᶠ distance3 p (at ps i)) (at ps i) (drop (i + 1) ps)
    unfolding inner
    inner-goes h = rw (left-more ps i h)

    pub inner-ends : length ps ≤ i → inner from to here p (drop i ps) ≡ []
    unfolding inner
    inner-ends h = rw (left-none ps i h)

-- ---- slice

module _ (ps : List Point3) (from to : Float) where
  pub slice-short : length ps < 2 → slice ps from to ≡ optional (point_at ps (clamp from zeroᶠ (line_length ps)))
  unfolding slice
  slice-short h = rw (lt-ltb (length ps) 2 h)

  pub slice_empty : 2 ≤ length ps → le (clamp to zeroᶠ (line_length ps)) (clamp from zeroᶠ (line_length ps)) ≡ true
      → slice ps from to ≡ optional (point_at ps (clamp from zeroᶠ (line_length ps)))
  unfolding slice
  slice_empty h t = rw (le-ltb (length ps) 2 h, t)

  pub slice-whole : 2 ≤ length ps → le (clamp to zeroᶠ (line_length ps)) (clamp from zeroᶠ (line_length ps)) ≡ false
      → slice ps from to ≡ optional (point_at ps (clamp from zeroᶠ (line_length ps)))
      ++ (between (clamp from zeroᶠ (line_length ps)) (clamp to zeroᶠ (line_length ps)) ps ++ optional (point_at ps (clamp to zeroᶠ (line_length ps))))
  unfolding slice
  slice-whole h t = rw (le-ltb (length ps) 2 h, t)

-- three pieces, one behind the other
pub writes-three : (w w1 w2 : List Float) (h m : ℕ) (a b c : List Point3) → h ≡ length a → m ≡ length b → length (a ++ (b ++ c)) * 3 ≤ length w
    → w1 ≡ over w 0 (flat a) → w2 ≡ over w1 (h * 3) (flat b) → over w2 ((h + m) * 3) (flat c) ≡ over w 0 (flat (a ++ (b ++ c)))
writes-three w w1 w2 h m a b c p q r e f =
    let l : length (a ++ (b ++ c)) ≡ length a + (length b + length c) = rw (length-append, length-append) in
    let k : length (a ++ b) ≡ length a + length b = length-append a b in
    let s : w2 ≡ over w 0 (flat (a ++ b)) = f ∙ rw e (over-flat w 0 h a b (omega arith) (omega arith)) in
    rw (s, ← append_assoc) (over-flat w 0 (h + m) (a ++ b) c (omega arith) (omega arith))

-- and how much room they take
pub room-three : (n : ℕ) (s a b c : List Point3) → s ≡ a ++ (b ++ c) → length s * 3 ≤ n → (length a + (length b + length c)) * 3 ≤ n
room-three n s a b c e h = omega (arith, ap length e, length-append a (b ++ c), length-append b c)

-- a second piece in the part behind the first
pub writes-part : (w w1 v : List Float) (n : ℕ) (a b : List Point3) → n ≡ length a → (length a + length b) * 3 ≤ length w
    → w1 ≡ over w 0 (flat a) → v ≡ over (mid_of (n * 3) (length w1 - n * 3) w1) 0 (flat b) → put_mid (n * 3) (length w1 - n * 3) w1 v ≡ over w 0 (flat (a ++ b))
writes-part w w1 v n a b p h e f =
    let k : length w1 ≡ length w = ap length e ∙ length-over-flat w 0 a (omega arith) in
    let l : n * 3 ≤ length w1 = omega arith in
    let t : post_of (n * 3) (length w1 - n * 3) w1 ≡ [] = Post-is (n * 3) (length w1) w1 l ∙ drop-length w1 in
    let m : mid_of (n * 3) (length w1 - n * 3) w1 ≡ drop (n * 3) w1 =
    take_all (length w1 - n * 3) (drop (n * 3) w1) (omega (arith, length-drop (n * 3) w1)) in
    rw (t, append-nil, f, m, over-part w1 (n * 3) 0 (flat b) l, add-zero, e) (over-flat w 0 n a b (omega arith) (omega arith))

-- ---- resample

module _ (ps : List Point3) (parts : ℕ) where
  pub length_resample : (i k : ℕ) → 0 < length ps → length (resample_from ps parts i k) ≡ k
  unfolding resample_from
  length_resample i zero h = refl
  length_resample i (suc k) h = rw (length-append, point-at-one ps (share (line_length ps) i parts) h, length_resample (suc i) k h) (omega arith)

  pub resample_none : (i k : ℕ) → length ps ≡ 0 → resample_from ps parts i k ≡ []
  unfolding resample_from
  resample_none i zero h = refl
  resample_none i (suc k) h = rw (point-at-empty ps (share (line_length ps) i parts) h) (resample_none (suc i) k h)

  -- number i of n
  pub resample_goes : (i n : ℕ) → i < n
      → resample_from ps parts i (n - i) ≡ optional (point_at ps (share (line_length ps) i parts)) ++ resample_from ps parts (i + 1) (n - (i + 1))
  resample_goes i n h =
      let e : n - i ≡ suc (n - (i + 1)) = omega arith in
      rw (e, add-one i) (step (n - suc i))
    where
      step : (k : ℕ) → resample_from ps parts i (suc k) ≡ optional (point_at ps (share (line_length ps) i parts)) ++ resample_from ps parts (suc i) k
      step k = unfold resample_from in refl

  pub resample_ends : (i n : ℕ) → n ≤ i → resample_from ps parts i (n - i) ≡ []
  unfolding resample_from
  resample_ends i n h = let e : n - i ≡ 0 = omega arith in rw e

pub resample_begins : (ps : List Point3) (n m : ℕ) → m ≡ max n 2 → resample_count ps n ≡ resample_from ps (m - 1) 0 (m - 0)
unfolding resample_count
resample_begins ps n m e = let f : m - 0 ≡ m = omega arith in rw (f, e)

pub length_resample_count : (ps : List Point3) (n : ℕ) → 0 < length ps → length (resample_count ps n) ≡ max n 2
unfolding resample_count
length_resample_count ps n h = length_resample ps (max n 2 - 1) 0 (max n 2) h

pub resample_empty : (ps : List Point3) (n : ℕ) → length ps ≡ 0 → resample_count ps n ≡ []
unfolding resample_count
resample_empty ps n h = resample_none ps (max n 2 - 1) 0 (max n 2) h

-- ---- reversed: what is left at i is the first n - i, backwards

pub reverse-goes : (ps : List Point3) (i : ℕ) → i < length ps
    → reverse (take (length ps - i) ps) ≡ at ps (length ps - 1 - i) ∷ reverse (take (length ps - (i + 1)) ps)
reverse-goes ps i h =
    let j = length ps - 1 - i in
    let e : length ps - i ≡ suc j = omega arith in
    let f : length ps - (i + 1) ≡ j = omega arith in
    rw (e, f, take-suc ps j (point_of []) (omega arith), reverse-append)

pub reverse-begins : (ps : List Point3) → reverse (take (length ps - 0) ps) ≡ reverse ps
reverse-begins ps = let e : length ps - 0 ≡ length ps = omega arith in rw (e, take-length)

pub reverse-ends : (ps : List Point3) (i : ℕ) → length ps ≤ i → reverse (take (length ps - i) ps) ≡ []
reverse-ends ps i h = let e : length ps - i ≡ 0 = omega arith in rw e

-- ---- concat

meeting-few : (join : Float) (p q : Option Point3) → meeting join p q ≤ length (optional q)
unfolding meeting
meeting-few join None q = omega arith
meeting-few join (Some p) None = omega arith
meeting-few join (Some p) (Some q) = go (lt (distance3 p q) join)
  where
    go : (b : Bool) → cond b 1 0 ≤ 1
    go true = omega arith
    go false = omega arith

first-few : (qs : List Point3) → length (optional (first qs)) ≤ length qs
unfolding first
first-few [] = omega arith
first-few (q ∷ qs) = omega arith

module _ (join : Float) (ps qs : List Point3) where
  pub skipped-few : skipped join ps qs ≤ length qs
  unfolding skipped
  skipped-few = omega (arith, meeting-few join (last ps) (first qs), first-few qs)

  pub length-concat : length (concat join ps qs) ≡ length ps + (length qs - skipped join ps qs)
  unfolding concat
  length-concat = rw (length-append, length-drop)

-- ---- centerline

pub middle-one : (a b : Option Point3) → length (optional a) ≡ 1 → length (optional b) ≡ 1 → length (optional (middle a b)) ≡ 1
unfolding middle
middle-one None b h k = h
middle-one (Some p) None h k = k
middle-one (Some p) (Some q) h k = refl

pub middle-goes : (a b : Option Point3) (l m : List Point3) → length (optional a) ≡ 1 → length (optional b) ≡ 1
    → zip_with (λ p q. lerp3 p q halfᶠ) (optional a ++ l) (optional b ++ m) ≡ optional (middle a b) ++ zip_with (λ p q. lerp3 p q halfᶠ) l m
unfolding middle zip_with
middle-goes None b l m h k = absurd (omega arith)
middle-goes (Some p) None l m h k = absurd (omega arith)
middle-goes (Some p) (Some q) l m h k = refl

-- what is left of a centerline from number i on, of k points
abbrev pub halved : List Point3 → List Point3 → ℕ → ℕ → ℕ → List Point3
halved ps qs parts i k = zip_with (λ a b. lerp3 a b halfᶠ) (resample_from ps parts i k) (resample_from qs parts i k)

length-zip : (f : Point3 → Point3 → Point3) (l m : List Point3) → length l ≡ length m → length (zip_with f l m) ≡ length l
unfolding zip_with
length-zip f [] m h = refl
length-zip f (x ∷ l) [] h = absurd (omega arith)
length-zip f (x ∷ l) (y ∷ m) h = ap suc (length-zip f l m (omega arith))

pub centerline-none : (ps qs : List Point3) → (length ps ≡ 0) ⊎ (length qs ≡ 0) → centerline ps qs ≡ []
unfolding centerline
centerline-none [] qs h = refl
centerline-none (p ∷ ps) [] h = refl
centerline-none (p ∷ ps) (q ∷ qs) (inl h) = absurd (omega arith)
centerline-none (p ∷ ps) (q ∷ qs) (inr h) = absurd (omega arith)

pub centerline-some : (ps qs : List Point3) → (length (centerline ps qs) ≡ 0 → ⊥) → (0 < length ps) × (0 < length qs)
centerline-some [] qs h = absurd (h (ap length (centerline-none [] qs (inl refl))))
centerline-some (p ∷ ps) [] h = absurd (h (ap length (centerline-none (p ∷ ps) [] (inr refl))))
centerline-some (p ∷ ps) (q ∷ qs) h = (omega arith, omega arith)

module _ (ps qs : List Point3) where
  pub centerline-begins : (n : ℕ) → 0 < length ps → 0 < length qs → n ≡ max (max (length ps) (length qs)) 2
      → centerline ps qs ≡ halved ps qs (n - 1) 0 (n - 0)
  centerline-begins n h k e =
      rw (← resample_begins ps (max (length ps) (length qs)) n e, ← resample_begins qs (max (length ps) (length qs)) n e) (opened ps qs h k)
    where
      opened : (l r : List Point3) → 0 < length l → 0 < length r → centerline l r
          ≡ zip_with (λ a b. lerp3 a b halfᶠ) (resample_count l (max (length l) (length r))) (resample_count r (max (length l) (length r)))
      opened [] r h k = absurd (omega arith)
      opened (p ∷ l) [] h k = absurd (omega arith)
      opened (p ∷ l) (q ∷ r) h k = unfold centerline in refl

  pub length-centerline : 0 < length ps → 0 < length qs → length (centerline ps qs) ≡ max (max (length ps) (length qs)) 2
  length-centerline h k =
      let n = max (max (length ps) (length qs)) 2 in
      let e : n - 0 ≡ n = omega arith in
      rw (centerline-begins n h k refl, e)
      (length-zip (λ a b. lerp3 a b halfᶠ) (resample_from ps (n - 1) 0 n) (resample_from qs (n - 1) 0 n)
      (length_resample ps (n - 1) 0 n h ∙ sym (length_resample qs (n - 1) 0 n k)) ∙ length_resample ps (n - 1) 0 n h)

  pub halved-goes : (parts i n : ℕ) → 0 < length ps → 0 < length qs → i < n → halved ps qs parts i (n - i)
      ≡ optional (middle (point_at ps (share (line_length ps) i parts)) (point_at qs (share (line_length qs) i parts))) ++ halved ps qs parts (i + 1) (n - (i + 1))
  halved-goes parts i n h k l =
      rw (resample_goes ps parts i n l, resample_goes qs parts i n l)
      (middle-goes (point_at ps (share (line_length ps) i parts)) (point_at qs (share (line_length qs) i parts)) _ _
      (point-at-one ps (share (line_length ps) i parts) h) (point-at-one qs (share (line_length qs) i parts) k))

  pub halved-ends : (parts i n : ℕ) → n ≤ i → halved ps qs parts i (n - i) ≡ []
  unfolding zip_with
  halved-ends parts i n h = rw (resample_ends ps parts i n h)
