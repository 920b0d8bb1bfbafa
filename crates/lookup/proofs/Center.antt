-- The centreline of a lane: from both sides as they are written, or from the store. Assumes nothing.
use Rattle.std.specs.Prelude.{Option, None, Some}
use mathlib.Core.Path.{◌≡◌, refl, sym, ap, ◌∙◌}
use mathlib.Core.Logic.{inl, inr}
use mathlib.Core.Bool.{Bool, true, false, not, ◌&&◌, ◌||◌, cond}
use mathlib.Core.List.{List, [], ◌∷◌, reverse}
use Prim.Native.Nat.{ℕ, suc, ◌+◌, ◌*◌, ◌≤◌, ◌<◌}
use native.Mathlib.Omega.{arith}
use lib.Ieee.{Float}
use lib.Dec.{eqb, leb}
use lib.ListN.{length, get_or, take, length-take}
use borrow.Author.Tests.{leb-true, ne_eqb, eqb-true, eqb-false}
use Rattle.lists.specs.Rows.{over}
use Rattle.lists.proofs.Booleans.{and-fst, and-snd}
use Rattle.lists.proofs.Rows.{length_over}
use Rattle.polyline.specs.Polyline as Polyline
use Rattle.polyline.specs.Polyline.{points, flat}
use Rattle.polyline.proofs.Points.{length-points, length-flat, points-over}
use Rattle.polyline.proofs.Lines.{centerline-none, length-centerline}
use Rattle.entities.specs.Records.{Line, Lane, Map}
use Rattle.rules.specs.Names.{Side, Left, Right}
use Rattle.rules.specs.Map.{oriented_boundary, usable, derived, centerline}
use Rattle.tables.specs.View.{word, mark, ref_at, part, rows, lane_of, boundary_of}
use Rattle.tables.specs.Formed.{span_at, stored}
use Rattle.lookup.specs.Lookup.{place_of, row_at, all_short, centers_stored, count_of, points_or, length_of, side_word, drawn, Drawable}
use Rattle.lookup.proofs.Laws.{oriented-drawn, place-within, word_in, next_in, row-passes, part-few, length-turned, oriented-absent, oriented-there}

-- ---- a side: how many points it has, and its points as they were written

pub count_none : (o : Option Line) → None ≡ count_of o → o ≡ None
count_none None e = refl
count_none (Some l) e = let z : ◌≡◌ {A = ℕ} 0 1 = cc in absurd (omega arith)

pub count-some : (o : Option Line) (a : ℕ) → Some a ≡ count_of o → (o ≡ Some (points_or o)) × (a ≡ length (points_or o))
count-some None a e = let z : ◌≡◌ {A = ℕ} 0 1 = cc in absurd (omega arith)
count-some (Some l) a e = (refl, cc)

-- a line along a lane has at most 256 points
pub oriented-few : (c : List Float) (b w : List ℕ) (side : Side) → all_short 5 2 b ≡ true → length (points_or (oriented_boundary (drawn c b) side (lane_of c w))) ≤ 256
oriented-few c b w side h = go (place_of 5 b (word (side_word side) w)) refl
  where
    go : (r : Option ℕ) → place_of 5 b (word (side_word side) w) ≡ r → length (points_or (oriented_boundary (drawn c b) side (lane_of c w))) ≤ 256
    go None q = rw (oriented-absent c b w side (ref_at (side_word side) w) refl q) (omega arith)
    go (Some j) q =
        let v = row_at 5 b j in
        let ps = points (part c (word 2 v) (word 3 v)) in
        let s : word 3 v ≤ 256 = leb-true (word 3 v) 256 (row-passes 5 (λ u. leb (word 3 u) 256) b (unfold all_short in h) j (place-within 5 b (word (side_word side) w) j q)) in
        let l : length ps ≤ word 3 v = part-few c (word 2 v) (word 3 v) in
        let n : length ps ≡ length (cond (mark (suc (side_word side)) w) (reverse ps) ps) = length-turned (mark (suc (side_word side)) w) ps in
        rw (oriented-there c b w side (ref_at (side_word side) w) refl j q (part c (word 2 v) (word 3 v)) refl) (omega arith)

module _ (o : Option Line) (w v : List Float) (few : length (points_or o) ≤ 256) (room : 768 ≤ length w) (e : v ≡ over w 0 (flat (points_or o))) where
  pub side-length : length v ≡ length w
  side-length = ap length e ∙ length_over w 0 (flat (points_or o)) (omega (arith, length-flat (points_or o)))

  module _ (a : ℕ) (n : Some a ≡ count_of o) where
    pub side-small : a ≤ 256
    side-small = omega (arith, (count-some o a n).1)

    pub side-there : o ≡ Some (points (take (a * 3) v))
    side-there =
        let p : points (take (a * 3) v) ≡ points_or o = rw ((count-some o a n).1, e) (points-over w (points_or o) (omega arith)) in
        (count-some o a n).0 ∙ ap Some (sym p)

    pub side-few : length (points (take (a * 3) v)) ≤ 256
    side-few = rw (length-points, length-take) (omega (arith, side-small))

-- ---- both sides

pub left-absent : (o p : Option Line) → o ≡ None → derived o p ≡ None
left-absent o p e = rw e

pub right-absent : (o p : Option Line) → p ≡ None → derived o p ≡ None
right-absent None p e = refl
right-absent (Some l) p e = rw e

pub center_few : (ps qs : Line) → length ps ≤ 256 → length qs ≤ 256 → length (Polyline.centerline ps qs) ≤ 256
center_few [] qs h k = rw (centerline-none [] qs (inl refl)) (omega arith)
center_few (p ∷ ps) [] h k = rw (centerline-none (p ∷ ps) [] (inr refl)) (omega arith)
center_few (p ∷ ps) (q ∷ qs) h k =
    let a : 0 < length (p ∷ ps) = omega arith in
    let b : 0 < length (q ∷ qs) = omega arith in
    rw (length-centerline (p ∷ ps) (q ∷ qs) a b) (omega arith)

pub center_room : (ps qs : Line) (n : ℕ) → length ps ≤ 256 → length qs ≤ 256 → 768 ≤ n
    → (length (Polyline.centerline ps qs) ≤ 65536) × (length (Polyline.centerline ps qs) * 3 ≤ n)
center_room ps qs n h k m = (omega (arith, center_few ps qs h k), omega (arith, center_few ps qs h k))

module _ (o p : Option Line) (ps qs : Line) (f : o ≡ Some ps) (g : p ≡ Some qs) (n : ℕ) (k : n ≡ length (Polyline.centerline ps qs))
    (w v : List Float) (e : v ≡ over w 0 (flat (Polyline.centerline ps qs))) where
  made : derived o p ≡ usable (Polyline.centerline ps qs)
  made = rw (f, g)

  pub center_empty : n ≡ 0 → (None ≡ count_of (derived o p)) × (v ≡ over w 0 (flat (points_or (derived o p))))
  center_empty z = rw made (go (Polyline.centerline ps qs) (sym k ∙ z) e)
    where
      go : (xs : Line) → length xs ≡ 0 → v ≡ over w 0 (flat xs) → (None ≡ count_of (usable xs)) × (v ≡ over w 0 (flat (points_or (usable xs))))
      go [] l q = (refl, q)
      go (x ∷ xs) l q = absurd (omega arith)

  pub center_some : (n ≡ 0 → ⊥) → (Some n ≡ count_of (derived o p)) × (v ≡ over w 0 (flat (points_or (derived o p))))
  center_some z = rw made (go (Polyline.centerline ps qs) k e)
    where
      go : (xs : Line) → n ≡ length xs → v ≡ over w 0 (flat xs) → (Some n ≡ count_of (usable xs)) × (v ≡ over w 0 (flat (points_or (usable xs))))
      go [] l q = absurd (z l)
      go (x ∷ xs) l q = (ap Some l, q)

-- ---- explicit or derived

or_left : (a b : Bool) → a ≡ false → (a || b) ≡ true → b ≡ true
or_left a b e h = rw e at h

module _ (c : List Float) (b t : List ℕ) (i : ℕ) where
  marked : get_or t (1 + i * 52 + 6) 0 ≡ word 6 (row_at 52 t i)
  marked = word_in 52 t i 6 (omega arith)

  start-read : get_or t (1 + i * 52 + 6 + 1) 0 ≡ word 7 (row_at 52 t i)
  start-read = next_in 52 t i 6 (omega arith)

  size-read : get_or t (1 + i * 52 + 6 + 1 + 1) 0 ≡ word 8 (row_at 52 t i)
  size-read = let e : 1 + i * 52 + 6 + 1 + 1 ≡ 1 + i * 52 + 8 = omega arith in rw e (word_in 52 t i 8 (omega arith))

  pub center_derived : get_or t (1 + i * 52 + 6) 0 ≡ 0
      → centerline (drawn c b) (lane_of c (row_at 52 t i)) ≡ derived (oriented_boundary (drawn c b) Left (lane_of c (row_at 52 t i))) (oriented_boundary (drawn c b) Right (lane_of c (row_at 52 t i)))
  unfolding centerline lane_of
  center_derived z = let e : word 6 (row_at 52 t i) ≡ 0 = sym marked ∙ z in rw e

  module _ (z : get_or t (1 + i * 52 + 6) 0 ≡ 0 → ⊥) where
    explicit : eqb (word 6 (row_at 52 t i)) 0 ≡ false
    explicit = ne_eqb (word 6 (row_at 52 t i)) 0 (λ e. z (marked ∙ e))

    pub center_explicit : (line : List Float) → line ≡ part c (get_or t (1 + i * 52 + 6 + 1) 0) (get_or t (1 + i * 52 + 6 + 1 + 1) 0) → centerline (drawn c b) (lane_of c (row_at 52 t i)) ≡ Some (points line)
    unfolding centerline lane_of
    center_explicit line e = rw (e, start-read, size-read, explicit)

    module _ (h : centers_stored c t ≡ true) (l : i < word 0 t) where
      center_good : (stored c (span_at 7 (row_at 52 t i)) && leb (word 8 (row_at 52 t i)) 256) ≡ true
      unfolding centers_stored
      center_good =
          let m : not (mark 6 (row_at 52 t i)) ≡ false = rw explicit in
          or_left (not (mark 6 (row_at 52 t i))) (stored c (span_at 7 (row_at 52 t i)) && leb (word 8 (row_at 52 t i)) 256) m
          (row-passes 52 (λ w. not (mark 6 w) || (stored c (span_at 7 w) && leb (word 8 w) 256)) t h i l)

      pub center_stored : stored c (record { start = get_or t (1 + i * 52 + 6 + 1) 0; size = get_or t (1 + i * 52 + 6 + 1 + 1) 0 }) ≡ true
      center_stored = rw (start-read, size-read) (and-fst (stored c (span_at 7 (row_at 52 t i))) (leb (word 8 (row_at 52 t i)) 256) center_good)

      pub center_short : (line : List Float) → line ≡ part c (get_or t (1 + i * 52 + 6 + 1) 0) (get_or t (1 + i * 52 + 6 + 1 + 1) 0) → (n : ℕ) → 768 ≤ n → length (points line) * 3 ≤ n
      center_short line e n m =
          let f : get_or t (1 + i * 52 + 6 + 1 + 1) 0 ≤ 256 = rw size-read (leb-true (word 8 (row_at 52 t i)) 256 (and-snd (stored c (span_at 7 (row_at 52 t i))) (leb (word 8 (row_at 52 t i)) 256) center_good)) in
          rw e (omega (arith, part-few c (get_or t (1 + i * 52 + 6 + 1) 0) (get_or t (1 + i * 52 + 6 + 1 + 1) 0)))

-- the same line under another name
pub written_as : (o p : Option Line) (r : Option ℕ) (w v : List Float) → p ≡ o → (r ≡ count_of o) × (v ≡ over w 0 (flat (points_or o))) → (r ≡ count_of p) × (v ≡ over w 0 (flat (points_or p)))
written_as o p r w v e h = rw e h

-- only the boundaries of a map are read
pub center_drawn_lem : (c : List Float) (b : List ℕ) (m : Map) (l : Lane) → m.boundaries ≡ rows 5 (boundary_of c) b → centerline m l ≡ centerline (drawn c b) l
unfolding centerline
center_drawn_lem c b m l e = rw (oriented-drawn c b m Left l e, oriented-drawn c b m Right l e)

-- a centreline has at most 256 points
derived-few : (o p : Option Line) → length (points_or o) ≤ 256 → length (points_or p) ≤ 256 → length (points_or (derived o p)) ≤ 256
derived-few None p h k = omega arith
derived-few (Some l) None h k = omega arith
derived-few (Some l) (Some r) h k = go (Polyline.centerline l r) (center_few l r h k)
  where
    go : (xs : Line) → length xs ≤ 256 → length (points_or (usable xs)) ≤ 256
    go [] q = q
    go (x ∷ xs) q = q

pub lane_center_few : (c : List Float) (b t : List ℕ) (i : ℕ) → Drawable t b c → i < word 0 t → length (points_or (centerline (drawn c b) (lane_of c (row_at 52 t i)))) ≤ 256
lane_center_few c b t i d l = go (eqb (get_or t (1 + i * 52 + 6) 0) 0) refl
  where
    go : (x : Bool) → eqb (get_or t (1 + i * 52 + 6) 0) 0 ≡ x → length (points_or (centerline (drawn c b) (lane_of c (row_at 52 t i)))) ≤ 256
    go true e =
        rw (center_derived c b t i (eqb-true (get_or t (1 + i * 52 + 6) 0) 0 e))
        (derived-few (oriented_boundary (drawn c b) Left (lane_of c (row_at 52 t i))) (oriented_boundary (drawn c b) Right (lane_of c (row_at 52 t i)))
        (oriented-few c b (row_at 52 t i) Left d.boundaries_short) (oriented-few c b (row_at 52 t i) Right d.boundaries_short))
    go false e =
        let z = eqb-false (get_or t (1 + i * 52 + 6) 0) 0 e in
        let line = part c (get_or t (1 + i * 52 + 6 + 1) 0) (get_or t (1 + i * 52 + 6 + 1 + 1) 0) in
        rw (center_explicit c b t i z line refl) (omega (arith, center_short c b t i z d.centers_are_stored l line refl 768 (omega arith)))

-- the length of the line that was written
pub length_none : (o : Option Line) → o ≡ None → None ≡ length_of o
length_none o e = rw e

pub length_some : (o : Option Line) (ps : Line) (x : Float) → o ≡ Some ps → x ≡ Polyline.line_length ps → Some x ≡ length_of o
length_some o ps x e f = rw (e, f)
