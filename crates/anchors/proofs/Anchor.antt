-- Anchors of rules: the middle of a stop line, or half way between the middles of a crosswalk's edges. Assumes nothing.
use Rattle.std.specs.Prelude.{Option, None, Some}
use mathlib.Core.Path.{◌≡◌, refl, sym, ap, ◌∙◌}
use mathlib.Core.Bool.{Bool, true, false, not, ◌&&◌, cond, true≢false}
use mathlib.Core.List.{List, [], ◌∷◌}
use Prim.Native.Nat.{ℕ, zero, suc, ◌+◌, ◌*◌, ◌<◌}
use native.Mathlib.Omega.{arith}
use lib.Ieee.{Float}
use lib.Dec.{eqb}
use lib.ListN.{length, get_or, take, drop, length-take, length-drop}
use lib.Seq.{drop-cons}
use borrow.Author.Tests.{ne_eqb, eqb-true}
use Rattle.lists.proofs.Booleans.{and-fst, and-snd}
use Rattle.geometry.specs.Float.{halfᶠ}
use Rattle.geometry.specs.Point.{xy, lerp2}
use Rattle.polyline.specs.Polyline.{points, point_at_fraction}
use Rattle.entities.specs.Records.{Line, Rule, Map}
use Rattle.rules.specs.Names.{Point2, Point3}
use Rattle.rules.specs.Map.{mid, half_way, stop_anchor, cross_anchor, crosswalk_in, stop_line, crosswalk, anchor_by, rule_anchor}
use Rattle.tables.specs.View.{word, part, rows, rule_of, stop_line_of, crosswalk_of}
use Rattle.tables.specs.Formed.{counted}
use Rattle.row_tests.proofs.Tables.{row_room}
use Rattle.lookup.specs.Lookup.{place_of, row_at, crossed}
use Rattle.lookup.proofs.Laws.{find_at, find_none, word_in, row_line}

-- ---- points

module _ (ps : Line) (r : Option Point3) (e : r ≡ point_at_fraction ps halfᶠ) where
  pub mid_none : r ≡ None → None ≡ mid ps
  unfolding mid
  mid_none f = rw (← e, f)

  pub mid-some : (p : Point3) (q : Point2) → r ≡ Some p → q ≡ xy p → Some q ≡ mid ps
  unfolding mid
  mid-some p q f g = rw (← e, f, g)

pub half-some : (p q : Option Point2) (a b r : Point2) → p ≡ Some a → q ≡ Some b → r ≡ lerp2 a b halfᶠ → Some r ≡ half_way p q
half-some p q a b r e f g = rw (e, f, g)

half-points : (p q : Option Point2) (a b : Option Point2) → p ≡ a → q ≡ b → half_way p q ≡ half_way a b
half-points p q a b e f = rw (e, f)

-- ---- stop lines and crosswalks

module _ (c : List Float) (t : List ℕ) (id : ℕ) where
  stop-key : (w : List ℕ) → (stop_line_of c w).id ≡ word 0 w
  unfolding stop_line_of
  stop-key w = refl

  pub stop-absent : place_of 4 t id ≡ None → None ≡ stop_anchor (stop_line (crossed c t []) id)
  unfolding stop_line
  stop-absent e = rw (find_none 4 (stop_line_of c) (λ s. s.id) stop-key t id e)

  module _ (j : ℕ) (e : place_of 4 t id ≡ Some j) (line : List Float) (f : line ≡ part c (get_or t (1 + j * 4 + 1) 0) (get_or t (1 + j * 4 + 1 + 1) 0)) where
    stop-line-is : points line ≡ (stop_line_of c (row_at 4 t j)).geometry
    unfolding stop_line_of
    stop-line-is = ap points (f ∙ row_line 4 1 c t j (omega arith))

    pub stop-there : (r : Option Point2) → r ≡ mid (points line) → r ≡ stop_anchor (stop_line (crossed c t []) id)
    unfolding stop_line
    stop-there r g = g ∙ rw (find_at 4 (stop_line_of c) (λ s. s.id) stop-key t id j e, stop-line-is)

  cross-key : (w : List ℕ) → (crosswalk_of c w).id ≡ word 0 w
  unfolding crosswalk_of
  cross-key w = refl

  pub cross-absent : place_of 7 t id ≡ None → None ≡ cross_anchor (crosswalk (crossed c [] t) id)
  unfolding crosswalk
  cross-absent e = rw (find_none 7 (crosswalk_of c) (λ s. s.id) cross-key t id e)

  module _ (j : ℕ) (e : place_of 7 t id ≡ Some j) (left right : List Float) (f : left ≡ part c (get_or t (1 + j * 7 + 1) 0) (get_or t (1 + j * 7 + 1 + 1) 0))
      (g : right ≡ part c (get_or t (1 + j * 7 + 3) 0) (get_or t (1 + j * 7 + 3 + 1) 0)) where
    left_is : points left ≡ (crosswalk_of c (row_at 7 t j)).left_edge
    unfolding crosswalk_of
    left_is = ap points (f ∙ row_line 7 1 c t j (omega arith))

    right_is : points right ≡ (crosswalk_of c (row_at 7 t j)).right_edge
    unfolding crosswalk_of
    right_is = ap points (g ∙ row_line 7 3 c t j (omega arith))

    pub cross-there : (p q r : Option Point2) → p ≡ mid (points left) → q ≡ mid (points right) → r ≡ half_way p q
        → r ≡ cross_anchor (crosswalk (crossed c [] t) id)
    unfolding crosswalk
    cross-there p q r k l m =
        m ∙ half-points p q (mid (points left)) (mid (points right)) k l
        ∙ rw (find_at 7 (crosswalk_of c) (λ s. s.id) cross-key t id j e, left_is, right_is)

-- ---- a rule

-- only the stop lines and the crosswalks of a map are read
pub anchor_crossed : (c : List Float) (s x : List ℕ) (m : Map) (r : Rule) → m.stop_lines ≡ rows 4 (stop_line_of c) s → m.crosswalks ≡ rows 7 (crosswalk_of c) x
    → rule_anchor m r ≡ rule_anchor (crossed c s x) r
unfolding rule_anchor
anchor_crossed c s x m r e f = go r.stop_lines r.crosswalk
  where
    walks : (o : Option ℕ) → crosswalk_in m o ≡ crosswalk_in (crossed c s x) o
    walks None = refl
    walks (Some i) = unfold crosswalk in rw f

    go : (l : List ℕ) (o : Option ℕ) → anchor_by m r l ≡ anchor_by (crossed c s x) r l
    go [] o = ap cross_anchor (walks r.crosswalk)
    go (i ∷ l) o = unfold stop_line in rw e

-- the stop lines that the kind has: none, or some with the first
none-there : (k n : ℕ) (l : List ℕ) → (not (eqb k 5) && not (eqb n 0)) ≡ false → cond (not (eqb k 5)) (take n l) [] ≡ []
none-there k n l h = go (eqb k 5) (eqb n 0) refl h
  where
    go : (x y : Bool) → eqb n 0 ≡ y → (not x && not y) ≡ false → cond (not x) (take n l) [] ≡ []
    go true y e f = refl
    go false true e f = let z : n ≡ 0 = eqb-true n 0 e in rw z
    go false false e f = absurd (true≢false f)

first-there : (k n a : ℕ) (l rest : List ℕ) → l ≡ a ∷ rest → (not (eqb k 5) && not (eqb n 0)) ≡ true → (m : Map) (r : Rule)
    → anchor_by m r (cond (not (eqb k 5)) (take n l) []) ≡ stop_anchor (stop_line m a)
first-there k zero a l rest e h m r = absurd (true≢false (sym (and-snd (not (eqb k 5)) (not (eqb 0 0)) h)))
first-there k (suc n) a l rest e h m r = rw (and-fst (not (eqb k 5)) (not (eqb (suc n) 0)) h, e)

module _ (c : List Float) (s x t : List ℕ) (i : ℕ) (h : counted 512 330 t ≡ true) (l : i < word 0 t) where
  kind-read : get_or t (1 + i * 330 + 1) 0 ≡ word 1 (row_at 330 t i)
  kind-read = word_in 330 t i 1 (omega arith)

  count-read : get_or t (1 + i * 330 + 135) 0 ≡ word 135 (row_at 330 t i)
  count-read = word_in 330 t i 135 (omega arith)

  first_read : get_or t (1 + i * 330 + 136) 0 ≡ word 136 (row_at 330 t i)
  first_read = word_in 330 t i 136 (omega arith)

  cross-read : get_or t (1 + i * 330 + 4) 0 ≡ word 4 (row_at 330 t i)
  cross-read = word_in 330 t i 4 (omega arith)

  row-long : 136 < length (row_at 330 t i)
  row-long = rw (length-take, length-drop) (omega (arith, row_room 512 330 t h i l))

  tested : (b : Bool) (k n : ℕ) → k ≡ word 1 (row_at 330 t i) → n ≡ word 135 (row_at 330 t i) → (not (eqb k 5) && not (eqb n 0)) ≡ b
      → (not (eqb (word 1 (row_at 330 t i)) 5) && not (eqb (word 135 (row_at 330 t i)) 0)) ≡ b
  tested b k n e f g = rw (e, f) at g

  abbrev test : Bool
  test = not (eqb (get_or t (1 + i * 330 + 1) 0) 5) && not (eqb (get_or t (1 + i * 330 + 135) 0) 0)

  pub anchor_stop : (b : Bool) → b ≡ test → b ≡ true → (r : Option Point2) → r ≡ stop_anchor (stop_line (crossed c s []) (get_or t (1 + i * 330 + 136) 0))
      → r ≡ rule_anchor (crossed c s x) (rule_of (row_at 330 t i))
  unfolding rule_anchor rule_of stop_line
  anchor_stop b e f r g =
      let q = tested true (get_or t (1 + i * 330 + 1) 0) (get_or t (1 + i * 330 + 135) 0) kind-read count-read (sym e ∙ f) in
      let d = drop-cons (row_at 330 t i) 136 0 row-long in
      g ∙ rw first_read
      ((sym (first-there (word 1 (row_at 330 t i)) (word 135 (row_at 330 t i)) (word 136 (row_at 330 t i)) (drop 136 (row_at 330 t i)) (drop 137 (row_at 330 t i)) d q (crossed c s x) (rule_of (row_at 330 t i)))))

  module _ (b : Bool) (e : b ≡ test) (f : b ≡ false) where
    by-cross : rule_anchor (crossed c s x) (rule_of (row_at 330 t i)) ≡ cross_anchor (crosswalk_in (crossed c s x) (rule_of (row_at 330 t i)).crosswalk)
    unfolding rule_anchor rule_of
    by-cross =
        let q = tested false (get_or t (1 + i * 330 + 1) 0) (get_or t (1 + i * 330 + 135) 0) kind-read count-read (sym e ∙ f) in
        rw (none-there (word 1 (row_at 330 t i)) (word 135 (row_at 330 t i)) (drop 136 (row_at 330 t i)) q)

    pub anchor_cross : get_or t (1 + i * 330 + 1) 0 ≡ 4 → (r : Option Point2) → r ≡ cross_anchor (crosswalk (crossed c [] x) (get_or t (1 + i * 330 + 4) 0))
        → r ≡ rule_anchor (crossed c s x) (rule_of (row_at 330 t i))
    unfolding rule_of crosswalk
    anchor_cross k r g =
        let q : word 1 (row_at 330 t i) ≡ 4 = sym kind-read ∙ k in
        g ∙ rw (by-cross, q, cross-read)

    pub anchor_none : (get_or t (1 + i * 330 + 1) 0 ≡ 4 → ⊥) → None ≡ rule_anchor (crossed c s x) (rule_of (row_at 330 t i))
    unfolding rule_of
    anchor_none k =
        let q : eqb (word 1 (row_at 330 t i)) 4 ≡ false = ne_eqb (word 1 (row_at 330 t i)) 4 (λ z. k (kind-read ∙ z)) in
        rw (by-cross, q)
