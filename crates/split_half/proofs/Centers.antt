-- The centreline of a half, of the lane's row or derived, and an anchor on both halves joined. Assumes nothing.
use Rattle.std.specs.Prelude.{Option, None, Some}
use mathlib.Core.Path.{◌≡◌, refl, sym, ap, ◌∙◌}
use mathlib.Core.Logic.{◌⊎◌, inl, inr}
use Prim.Native.Nat.{ℕ, ◌+◌, ◌*◌, ◌≤◌}
use native.Mathlib.Omega.{arith}
use mathlib.Core.Bool.{Bool, true, false}
use mathlib.Core.List.{List}
use lib.Dec.{eqb}
use lib.Ieee.{Float, le}
use lib.ListN.{length, get_or, take}
use borrow.Author.Tests.{eqb-true, eqb-false, ne_eqb}
use Rattle.lists.specs.Rows.{over}
use Rattle.polyline.specs.Polyline.{points, flat, nearest_point, concat}
use Rattle.polyline.specs.declared.NearestPoint.{NearestPoint}
use Rattle.polyline.proofs.Counts.{length-concat-le}
use Rattle.entities.specs.Records.{Line}
use Rattle.rules.specs.Names.{Point2}
use Rattle.rules.specs.Map.{station}
use Rattle.tables.specs.View.{word, part, lane_of}
use Rattle.lookup.specs.Lookup.{row_at, count_of, points_or}
use Rattle.lookup.proofs.Laws.{word_in, next_in, written-some}
use Rattle.lookup.proofs.Center.{center_short}
use Rattle.split_half.specs.Half.{half_of, half_side, row_half, row_derived, row_past, past_on, line_over, Halving}
use Rattle.split_half.proofs.Halves.{Halved, half-few, half-side-few, derived-few, explicit_empty, explicit_some, explicit_none, written-room, written-lent, written_back}

-- ---- an explicit one

module _ (c : List Float) (t b : List ℕ) (p : Point2) (second : Bool) (i : ℕ) where
  abbrev own : Option Line
  own = (lane_of c (row_at 52 t i)).centerline

  own-none : get_or t (1 + i * 52 + 6) 0 ≡ 0 → own ≡ None
  unfolding lane_of
  own-none z = let e : word 6 (row_at 52 t i) ≡ 0 = sym (word_in 52 t i 6 (omega arith)) ∙ z in rw e

  -- the line as it is read
  abbrev pub OwnLine : List Float → Type 0
  OwnLine line = line ≡ part c (get_or t (1 + i * 52 + 6 + 1) 0) (get_or t (1 + i * 52 + 6 + 1 + 1) 0)

  own-some : (get_or t (1 + i * 52 + 6) 0 ≡ 0 → ⊥) → (line : List Float) → OwnLine line → own ≡ Some (points line)
  unfolding lane_of
  own-some z line e =
      let m : eqb (word 6 (row_at 52 t i)) 0 ≡ false = ne_eqb (word 6 (row_at 52 t i)) 0 (λ q. z (word_in 52 t i 6 (omega arith) ∙ q)) in
      let s : 1 + i * 52 + 6 + 1 + 1 ≡ 1 + i * 52 + 8 = omega arith in
      let y : get_or t (1 + i * 52 + 6 + 1 + 1) 0 ≡ word 8 (row_at 52 t i) = rw s (word_in 52 t i 8 (omega arith)) in
      rw (e, next_in 52 t i 6 (omega arith), y, m)

  -- how the code comes to the boundaries: no line, or an empty one
  pub half-between : ((get_or t (1 + i * 52 + 6) 0 ≡ 0 → ⊥) × ((line : List Float) × ((OwnLine line) × (length (points line) ≡ 0)))) ⊎ (get_or t (1 + i * 52 + 6) 0 ≡ 0) → row_half c t b p second i ≡ row_derived c t b p second i
  half-between (inl (z, (line, (e, k)))) = rw (own-some z line e, explicit_empty p second (points line) k)
  half-between (inr z) = rw (own-none z, explicit_none p second)

  module _ (z : get_or t (1 + i * 52 + 6) 0 ≡ 0 → ⊥) (line : List Float) (e : OwnLine line) (k : length (points line) ≡ 0 → ⊥) where
    pub half-own : row_half c t b p second i ≡ Some (half_of second p (points line))
    half-own = rw (own-some z line e, explicit_some p second (points line) k)

    pub own-written : (w v : List Float) (r : ℕ) → Halved second p (points line) r w v → (Some r ≡ count_of (row_half c t b p second i)) × (v ≡ line_over w (row_half c t b p second i))
    own-written w v r g = written-some (row_half c t b p second i) (half_of second p (points line)) r w v half-own g.0 g.1.0

  module _ (h : Halving t b c i) where
    pub own-few : (get_or t (1 + i * 52 + 6) 0 ≡ 0 → ⊥) → (line : List Float) → OwnLine line → length (points line) ≤ 256
    own-few z line e = omega (arith, center_short c b t i z h.drawable.centers_are_stored h.row line e 768 (omega arith))

    between-few : length (points_or (row_derived c t b p second i)) ≤ 258
    between-few =
        let l = lane_of c (row_at 52 t i) in
        derived-few (half_side c b p second l.left) (half_side c b p second l.right) (half-side-few c b p second l.left h.drawable.boundaries_short) (half-side-few c b p second l.right h.drawable.boundaries_short)

    pub center_few : length (points_or (row_half c t b p second i)) ≤ 258
    center_few = go (eqb (get_or t (1 + i * 52 + 6) 0) 0) (eqb (length (points line)) 0) refl refl
      where
        line : List Float
        line = part c (get_or t (1 + i * 52 + 6 + 1) 0) (get_or t (1 + i * 52 + 6 + 1 + 1) 0)

        go : (x y : Bool) → eqb (get_or t (1 + i * 52 + 6) 0) 0 ≡ x → eqb (length (points line)) 0 ≡ y → length (points_or (row_half c t b p second i)) ≤ 258
        go true y f g = rw (half-between (inr (eqb-true (get_or t (1 + i * 52 + 6) 0) 0 f))) between-few
        go false true f g = rw (half-between (inl (eqb-false (get_or t (1 + i * 52 + 6) 0) 0 f, (line, (refl, eqb-true (length (points line)) 0 g))))) between-few
        go false false f g =
            let z = eqb-false (get_or t (1 + i * 52 + 6) 0) 0 f in
            rw (half-own z line refl (eqb-false (length (points line)) 0 g)) (half-few second p (points line) (own-few z line refl))

-- ---- an anchor

module _ (l : Line) (s : Float) (anchor : Point2) (o : Option NearestPoint) (e : o ≡ nearest_point l anchor) where
  abbrev at_or_past : Option Float → Bool
  at_or_past o = elim o [ None ↦ false | Some x ↦ le s x ]

  pub past-nowhere : o ≡ None → false ≡ past_on l s anchor
  unfolding station
  past-nowhere f = let q : station l anchor ≡ None = rw (← e, f) in sym (ap at_or_past q)

  pub past_near : (n : NearestPoint) → o ≡ Some n → le s n.station ≡ past_on l s anchor
  unfolding station
  past_near n f = let q : station l anchor ≡ Some n.station = rw (← e, f) in sym (ap at_or_past q)

module _ (join : Float) (c : List Float) (t b : List ℕ) (p : Point2) (i : ℕ) (s : Float) (anchor : Point2) where
  pub past_first : row_half c t b p false i ≡ None → false ≡ row_past join c t b p i s anchor
  unfolding row_past
  past_first e = rw e

  pub past-second : (ps : Line) → row_half c t b p false i ≡ Some ps → row_half c t b p true i ≡ None → false ≡ row_past join c t b p i s anchor
  unfolding row_past
  past-second ps e f = rw (e, f)

  -- on the line that was written
  module _ (ps qs : Line) (h : length ps ≤ 258) (k : length qs ≤ 258) (w : List Float) (room : 1548 ≤ length w) where
    pub joined-room : length (concat join ps qs) * 3 ≤ length w
    joined-room = omega (arith, length-concat-le join ps qs)

    module _ (v : List Float) (n : ℕ) (g : (n ≡ length (concat join ps qs)) × (v ≡ over w 0 (flat (concat join ps qs)))) where
      pub joined_small : n ≤ 516
      joined_small = omega (arith, g.0, length-concat-le join ps qs)

      pub joined-within : n * 3 ≤ length v
      joined-within = written-room w v (concat join ps qs) n g.1 g.0 joined-room

      pub joined-lent : n * 3 ≡ length (take (n * 3) v)
      joined-lent = written-lent w v (concat join ps qs) n g.1 g.0 joined-room

      pub past-both : row_half c t b p false i ≡ Some ps → row_half c t b p true i ≡ Some qs → (r : Bool) → r ≡ past_on (points (take (n * 3) v)) s anchor → r ≡ row_past join c t b p i s anchor
      unfolding row_past
      past-both e f r q = rw (e, f) (rw (written_back w v (concat join ps qs) n g.1 g.0 joined-room) at q)
