-- A half of a line, of a boundary and of a centreline: its points, and that there are at most 258. Assumes nothing.
use Rattle.std.specs.Prelude.{Option, None, Some}
use mathlib.Core.Path.{◌≡◌, refl, sym, ap, ◌∙◌}
use mathlib.Core.Logic.{inl, inr}
use Prim.Native.Nat.{ℕ, ◌*◌, ◌≤◌, ◌<◌}
use native.Mathlib.Omega.{arith}
use mathlib.Core.Bool.{Bool, true, false, not, cond, beq}
use mathlib.Core.List.{List, [], ◌∷◌, reverse}
use lib.Ieee.{Float}
use lib.ListN.{length, take}
use lib.Seq.{length-take-le}
use Rattle.lists.specs.Rows.{over}
use Rattle.lists.proofs.Rows.{length_over}
use Rattle.geometry.specs.Float.{zeroᶠ}
use Rattle.polyline.specs.Polyline as Polyline
use Rattle.polyline.specs.Polyline.{points, flat, line_length, slice, first_piece, second_piece, nearest_point}
use Rattle.polyline.specs.declared.NearestPoint.{NearestPoint}
use Rattle.polyline.proofs.Counts.{length-slice-le}
use Rattle.polyline.proofs.Lines.{centerline-none, length-centerline}
use Rattle.polyline.proofs.Points.{length-flat, points-over, over_none}
use Rattle.entities.specs.Records.{Line, Boundary}
use Rattle.rules.specs.Names.{BoundaryRef, Side, Point2}
use Rattle.rules.specs.Map.{station, boundary, boundary_on, usable, derived}
use Rattle.tables.specs.View.{word, ref_at, part, lane_of, boundary_of}
use Rattle.lookup.specs.Lookup.{row_at, place_of, all_short, count_of, points_or, side_word}
use Rattle.lookup.proofs.Laws.{place-within, find_at, find_none, side-ref, short-fits, length-turned, written_none, written-some}
use Rattle.lookup.proofs.Center.{count-some}
use Rattle.split_lines.proofs.Pieces.{first-none, second_none, first_some, second-some}
use Rattle.split_half.specs.Half.{half_of, takes_second, along, half_side, half_explicit, row_half_side, line_over, Halving}

-- ---- a line

-- a half has at most two points more than its line
pub half-few : (second : Bool) (p : Point2) (l : Line) → length l ≤ 256 → length (half_of second p l) ≤ 258
unfolding first_piece second_piece
half-few second p l h = go second (station l p) refl
  where
    go : (second : Bool) (o : Option Float) → station l p ≡ o → length (half_of second p l) ≤ 258
    go true None e = rw e (omega arith)
    go false None e = rw e (omega arith)
    go true (Some s) e = rw e (omega (arith, length-slice-le l s (line_length l)))
    go false (Some s) e = rw e (omega (arith, length-slice-le l zeroᶠ s))

-- what was written
abbrev pub Halved : Bool → Point2 → Line → ℕ → List Float → List Float → Type 0
Halved second p l r w v = (r ≡ length (half_of second p l)) × ((v ≡ over w 0 (flat (half_of second p l))) × (r ≤ 258))

module _ (second : Bool) (p : Point2) (l : Line) (o : Option NearestPoint) (e : o ≡ nearest_point l p) (w : List Float) where
  no-half : o ≡ None → half_of second p l ≡ []
  no-half f = go second
    where
      go : (b : Bool) → half_of b p l ≡ []
      go true = second_none p l o e f
      go false = first-none p l o e f

  pub half-none : o ≡ None → Halved second p l 0 w w
  half-none f = rw (no-half f) (refl, (sym (over_none w 0), omega arith))

  module _ (n : NearestPoint) (f : o ≡ Some n) (few : length l ≤ 256) (v : List Float) (r : ℕ) where
    pub half-second : second ≡ true → (len : Float) → len ≡ line_length l → (r ≡ length (slice l n.station len)) × (v ≡ over w 0 (flat (slice l n.station len))) → Halved second p l r w v
    unfolding second_piece
    half-second s len k g =
        let q = rw k at g in
        rw (s, second-some p l o e n f) (q.0, (q.1, omega (arith, q.0, length-slice-le l n.station (line_length l))))

    pub half-first : second ≡ false → (r ≡ length (slice l zeroᶠ n.station)) × (v ≡ over w 0 (flat (slice l zeroᶠ n.station))) → Halved second p l r w v
    unfolding first_piece
    half-first s q = rw (s, first_some p l o e n f) (q.0, (q.1, omega (arith, q.0, length-slice-le l zeroᶠ n.station)))

-- ---- a line that was written to the front of an array

module _ (w v : List Float) (ps : Line) (n : ℕ) (e : v ≡ over w 0 (flat ps)) (k : n ≡ length ps) (room : length ps * 3 ≤ length w) where
  pub written-length : length v ≡ length w
  written-length = ap length e ∙ length_over w 0 (flat ps) (omega (arith, length-flat ps))

  pub written-room : n * 3 ≤ length v
  written-room = omega (arith, written-length)

  pub written-lent : n * 3 ≡ length (take (n * 3) v)
  written-lent = sym (length-take-le (n * 3) v written-room)

  pub written_back : points (take (n * 3) v) ≡ ps
  written_back = rw (k, e) (points-over w ps room)

-- one that may be missing
module _ (o : Option Line) (w v : List Float) (few : length (points_or o) ≤ 258) (room : 774 ≤ length w) (e : v ≡ over w 0 (flat (points_or o))) (a : ℕ) (n : Some a ≡ count_of o) where
  pub line_small : a ≤ 258
  line_small = omega (arith, (count-some o a n).1)

  pub line-room : a * 3 ≤ length v
  line-room = written-room w v (points_or o) a e (count-some o a n).1 (omega arith)

  pub line-lent : a * 3 ≡ length (take (a * 3) v)
  line-lent = written-lent w v (points_or o) a e (count-some o a n).1 (omega arith)

  pub line-there : o ≡ Some (points (take (a * 3) v))
  line-there = (count-some o a n).0 ∙ ap Some (sym (written_back w v (points_or o) a e (count-some o a n).1 (omega arith)))

  pub line-few : length (points (take (a * 3) v)) ≤ 258
  line-few = rw (written_back w v (points_or o) a e (count-some o a n).1 (omega arith)) few

-- ---- a boundary

-- the test of the code
pub takes : (a b : Bool) → not (beq a b) ≡ takes_second a b
takes true true = refl
takes true false = refl
takes false true = refl
takes false false = refl

module _ (c : List Float) (b : List ℕ) (p : Point2) (second : Bool) (r : BoundaryRef) where
  key : (v : List ℕ) → (boundary_of c v).id ≡ word 0 v
  unfolding boundary_of
  key v = refl

  abbrev made : Option Boundary → Option Line
  made o = elim o [ None ↦ None | Some x ↦ Some (along r.reversed (half_of (takes_second second r.reversed) p x.geometry)) ]

  pub half-absent : place_of 5 b r.boundary ≡ None → half_side c b p second r ≡ None
  unfolding boundary
  half-absent q = ap made (find_none 5 (boundary_of c) (λ x. x.id) key b r.boundary q)

  module _ (j : ℕ) (q : place_of 5 b r.boundary ≡ Some j) (line : List Float) (e : line ≡ part c (word 2 (row_at 5 b j)) (word 3 (row_at 5 b j))) where
    pub half-there : half_side c b p second r ≡ Some (along r.reversed (half_of (takes_second second r.reversed) p (points line)))
    unfolding boundary boundary_of
    half-there = ap made (find_at 5 (boundary_of c) (λ x. x.id) key b r.boundary j q) ∙ rw e

    pub boundary-few : all_short 5 2 b ≡ true → length (points line) ≤ 256
    boundary-few h = omega (arith, short-fits 5 2 c b h j (place-within 5 b r.boundary j q) line e 768 (omega arith))

  pub half-side-few : all_short 5 2 b ≡ true → length (points_or (half_side c b p second r)) ≤ 258
  half-side-few h = go (place_of 5 b r.boundary) refl
    where
      go : (f : Option ℕ) → place_of 5 b r.boundary ≡ f → length (points_or (half_side c b p second r)) ≤ 258
      go None q = rw (half-absent q) (omega arith)
      go (Some j) q =
          let line = part c (word 2 (row_at 5 b j)) (word 3 (row_at 5 b j)) in
          let l = half_of (takes_second second r.reversed) p (points line) in
          rw (half-there j q line refl) (omega (arith, length-turned r.reversed l, half-few (takes_second second r.reversed) p (points line) (boundary-few j q line refl h)))

-- as it was written
module _ (c : List Float) (t b : List ℕ) (p : Point2) (second : Bool) (i : ℕ) (side : Side) (r : BoundaryRef) (er : r ≡ ref_at (side_word side) (row_at 52 t i)) (w : List Float) where
  by-ref : row_half_side c t b p second i side ≡ half_side c b p second r
  by-ref = ap (half_side c b p second) (side-ref c (row_at 52 t i) side ∙ sym er)

  pub side-none : place_of 5 b r.boundary ≡ None → (None ≡ count_of (row_half_side c t b p second i side)) × (w ≡ line_over w (row_half_side c t b p second i side))
  side-none q = written_none (row_half_side c t b p second i side) w (by-ref ∙ half-absent c b p second r q)

  module _ (j : ℕ) (q : place_of 5 b r.boundary ≡ Some j) (line : List Float) (e : line ≡ part c (word 2 (row_at 5 b j)) (word 3 (row_at 5 b j))) where
    abbrev half : Line
    half = half_of (not (beq second r.reversed)) p (points line)

    pub side-some : (ps : Line) → ps ≡ half → (n : ℕ) (v : List Float) → (n ≡ length ps) × (v ≡ over w 0 (flat (cond r.reversed (reverse ps) ps)))
        → (Some n ≡ count_of (row_half_side c t b p second i side)) × (v ≡ line_over w (row_half_side c t b p second i side))
    side-some ps z n v g =
        let x : row_half_side c t b p second i side ≡ Some (cond r.reversed (reverse ps) ps) = by-ref ∙ half-there c b p second r j q line e ∙ rw (z, takes second r.reversed) in
        written-some (row_half_side c t b p second i side) (cond r.reversed (reverse ps) ps) n w v x (g.0 ∙ length-turned r.reversed ps) g.1

pub row-side-few : (c : List Float) (t b : List ℕ) (p : Point2) (second : Bool) (i : ℕ) (side : Side) → Halving t b c i → length (points_or (row_half_side c t b p second i side)) ≤ 258
row-side-few c t b p second i side h = half-side-few c b p second (boundary_on side (lane_of c (row_at 52 t i))) h.drawable.boundaries_short

-- ---- both

pub center_few : (ps qs : Line) → length ps ≤ 258 → length qs ≤ 258 → length (Polyline.centerline ps qs) ≤ 258
center_few [] qs h k = rw (centerline-none [] qs (inl refl)) (omega arith)
center_few (p ∷ ps) [] h k = rw (centerline-none (p ∷ ps) [] (inr refl)) (omega arith)
center_few (p ∷ ps) (q ∷ qs) h k =
    let a : 0 < length (p ∷ ps) = omega arith in
    let b : 0 < length (q ∷ qs) = omega arith in
    rw (length-centerline (p ∷ ps) (q ∷ qs) a b) (omega arith)

pub center_room : (ps qs : Line) (n : ℕ) → length ps ≤ 258 → length qs ≤ 258 → 774 ≤ n → (length (Polyline.centerline ps qs) ≤ 65536) × (length (Polyline.centerline ps qs) * 3 ≤ n)
center_room ps qs n h k m = (omega (arith, center_few ps qs h k), omega (arith, center_few ps qs h k))

pub derived-few : (o p : Option Line) → length (points_or o) ≤ 258 → length (points_or p) ≤ 258 → length (points_or (derived o p)) ≤ 258
derived-few None p h k = omega arith
derived-few (Some l) None h k = omega arith
derived-few (Some l) (Some r) h k = go (Polyline.centerline l r) (center_few l r h k)
  where
    go : (xs : Line) → length xs ≤ 258 → length (points_or (usable xs)) ≤ 258
    go [] q = q
    go (x ∷ xs) q = q

-- ---- an explicit centreline

module _ (p : Point2) where
  pub explicit_empty : (second : Bool) (l : Line) → length l ≡ 0 → half_explicit p second (Some l) ≡ None
  unfolding station nearest_point
  explicit_empty true [] h = refl
  explicit_empty false [] h = refl
  explicit_empty second (x ∷ xs) h = absurd (omega arith)

  pub explicit_some : (second : Bool) (l : Line) → (length l ≡ 0 → ⊥) → half_explicit p second (Some l) ≡ Some (half_of second p l)
  unfolding station nearest_point
  explicit_some second [] h = absurd (h refl)
  explicit_some true (x ∷ []) h = refl
  explicit_some false (x ∷ []) h = refl
  explicit_some true (x ∷ y ∷ xs) h = refl
  explicit_some false (x ∷ y ∷ xs) h = refl

  pub explicit_none : (second : Bool) → half_explicit p second None ≡ None
  explicit_none true = refl
  explicit_none false = refl
