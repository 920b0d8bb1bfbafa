-- Rows that name a lane: a list as it is lent, and the tests in their order. Assumes nothing.
use mathlib.Core.Path.{◌≡◌, refl, sym, ap, ◌∙◌}
use Prim.Native.Nat.{ℕ, zero, suc, ◌+◌, ◌-◌, ◌≤◌}
use native.Mathlib.Omega.{arith}
use mathlib.Core.Bool.{Bool, true, false, not, cond, ◌&&◌, ◌||◌}
use mathlib.Core.List.{List, [], ◌∷◌}
use lib.Dec.{eqb, leb}
use lib.ListN.{length, take, drop, length-drop}
use lib.Seq.{length-take-le, take-take}
use borrow.Author.Tests.{eq-eqb, ne_eqb, leb-true}
use Rattle.lists.specs.Select.{keep, has, without}
use Rattle.tables.specs.View.{word, ids_at}
use Rattle.tables.specs.Formed.{lane_formed, rule_formed}
use Rattle.mentions.specs.declared.Rows.{Rows}
use Rattle.mentions.specs.declared.Rows.TheVariants.{Lanes, Roads, Junctions, Rules, Orphans}
use Rattle.mentions.specs.Naming.{row_words, row_formed, slot_names, lane_row_names, rule_row_names, names_lane}

-- a list as it is lent
pub ids-lent : (w : List ℕ) (k n : ℕ) → take (k + 1 + n - (k + 1)) (drop (k + 1) w) ≡ take n (drop (suc k) w)
ids-lent w k n =
    let e : k + 1 + n - (k + 1) ≡ n = omega arith in
    let f : k + 1 ≡ suc k = omega arith in
    rw e (rw f)

pub has-lent : (w : List ℕ) (k a : ℕ) (r : Bool) → r ≡ has a (take (k + 1 + word k w - (k + 1)) (drop (k + 1) w)) → r ≡ has a (ids_at k w)
has-lent w k a r e = e ∙ ap (has a) (ids-lent w k (word k w))

-- ---- a slot

pub slot-free : (w : List ℕ) (k a : ℕ) → word k w ≡ 0 → false ≡ slot_names a k w
slot-free w k a e = rw (eq-eqb (word k w) 0 e)

pub slot_held : (w : List ℕ) (k a : ℕ) → (word k w ≡ 0 → ⊥) → eqb (word (k + 1) w) a ≡ slot_names a k w
slot_held w k a n =
    let f : k + 1 ≡ suc k = omega arith in
    rw (ne_eqb (word k w) 0 n, f)

-- ---- another lane's row

pub lane-own : (w : List ℕ) (a : ℕ) → word 0 w ≡ a → false ≡ lane_row_names a w
lane-own w a e = rw (eq-eqb (word 0 w) a e)

module _ (w : List ℕ) (a : ℕ) (n : word 0 w ≡ a → ⊥) where
  pub lane-before-has : (p : Bool) → p ≡ has a (ids_at 18 w) → p ≡ true → true ≡ lane_row_names a w
  lane-before-has p e t = let z : has a (ids_at 18 w) ≡ true = sym e ∙ t in rw (ne_eqb (word 0 w) a n, z)

  module _ (p : Bool) (pe : p ≡ has a (ids_at 18 w)) (pf : p ≡ false) where
    pub lane-after-has : (q : Bool) → q ≡ has a (ids_at 35 w) → q ≡ true → true ≡ lane_row_names a w
    lane-after-has q e t =
        let y : has a (ids_at 18 w) ≡ false = sym pe ∙ pf in
        let z : has a (ids_at 35 w) ≡ true = sym e ∙ t in
        rw (ne_eqb (word 0 w) a n, y, z)

    module _ (q : Bool) (qe : q ≡ has a (ids_at 35 w)) (qf : q ≡ false) where
      rest : lane_row_names a w ≡ (slot_names a 14 w || slot_names a 16 w)
      rest =
          let y : has a (ids_at 18 w) ≡ false = sym pe ∙ pf in
          let z : has a (ids_at 35 w) ≡ false = sym qe ∙ qf in
          rw (ne_eqb (word 0 w) a n, y, z)

      pub lane-left-names : (l : Bool) → l ≡ slot_names a 14 w → l ≡ true → true ≡ lane_row_names a w
      lane-left-names l e t = sym (rest ∙ ap (λ z. z || slot_names a 16 w) (sym e ∙ t))

      pub lane-right-names : (l r : Bool) → l ≡ slot_names a 14 w → l ≡ false → r ≡ slot_names a 16 w → r ≡ lane_row_names a w
      lane-right-names l r e t f = f ∙ sym (rest ∙ ap (λ z. z || slot_names a 16 w) (sym e ∙ t))

-- ---- a rule's row

module _ (w : List ℕ) (a : ℕ) (p : Bool) (pe : p ≡ has a (ids_at 5 w)) where
  pub rule-lane : p ≡ true → true ≡ rule_row_names a w
  rule-lane t = let y : has a (ids_at 5 w) ≡ true = sym pe ∙ t in rw y

  module _ (pf : p ≡ false) where
    pub rule-other : (word 1 w ≡ 3 → ⊥) → false ≡ rule_row_names a w
    rule-other n = let y : has a (ids_at 5 w) ≡ false = sym pe ∙ pf in rw (y, ne_eqb (word 1 w) 3 n)

    way : word 1 w ≡ 3 → rule_row_names a w ≡ (has a (ids_at 200 w) || has a (ids_at 265 w))
    way e = let y : has a (ids_at 5 w) ≡ false = sym pe ∙ pf in rw (y, eq-eqb (word 1 w) 3 e)

    pub rule-priority-has : word 1 w ≡ 3 → (q : Bool) → q ≡ has a (ids_at 200 w) → q ≡ true → true ≡ rule_row_names a w
    rule-priority-has k q e t = sym (way k ∙ ap (λ z. z || has a (ids_at 265 w)) (sym e ∙ t))

    pub rule-yielding-has : word 1 w ≡ 3 → (q r : Bool) → q ≡ has a (ids_at 200 w) → q ≡ false → r ≡ has a (ids_at 265 w) → r ≡ rule_row_names a w
    rule-yielding-has k q r e t f = f ∙ sym (way k ∙ ap (λ z. z || has a (ids_at 265 w)) (sym e ∙ t))

-- ---- a rule with no other lane

-- those that are an id and those that are not
keep-both : (a : ℕ) (l : List ℕ) → length (keep (eqb a) l) + length (without a l) ≡ length l
unfolding keep without
keep-both a [] = refl
keep-both a (x ∷ l) = go (eqb a x) (keep-both a l)
  where
    go : (b : Bool) → length (keep (eqb a) l) + length (without a l) ≡ length l
        → length (cond b (x ∷ keep (eqb a) l) (keep (eqb a) l)) + length (cond (not b) (x ∷ without a l) (without a l)) ≡ suc (length l)
    go true e = omega arith
    go false e = omega arith

all_are : (m n l : ℕ) → m + l ≡ n → eqb m n ≡ eqb l 0
all_are m n zero e = eq-eqb m n (omega arith)
all_are m n (suc l) e = ne_eqb m n (λ f. omega arith) ∙ sym (ne_eqb (suc l) 0 (λ f. omega arith))

module _ (w : List ℕ) (a : ℕ) (p : Bool) (pe : p ≡ rule_row_names a w) where
  pub orphan-counted : p ≡ true → 6 + word 5 w ≤ length w → (m : ℕ) → m ≡ length (keep (eqb a) (take (6 + word 5 w - 6) (drop 6 w)))
      → eqb m (word 5 w) ≡ names_lane Orphans a w
  unfolding names_lane
  orphan-counted t room m e =
      let n = word 5 w in
      let y : rule_row_names a w ≡ true = sym pe ∙ t in
      let z : 6 + n - 6 ≡ n = omega arith in
      let s : take (6 + n - 6) (drop 6 w) ≡ ids_at 5 w = ap (λ k. take k (drop 6 w)) z in
      let l : length (ids_at 5 w) ≡ n = length-take-le n (drop 6 w) (rw length-drop (omega arith)) in
      let q : m ≡ length (keep (eqb a) (ids_at 5 w)) = e ∙ ap (λ x. length (keep (eqb a) x)) s in
      let b = keep-both a (ids_at 5 w) in
      all_are m n (length (without a (ids_at 5 w))) (omega arith) ∙ sym (ap (λ x. x && eqb (length (without a (ids_at 5 w))) 0) y)

  pub orphan-not : p ≡ false → false ≡ names_lane Orphans a w
  unfolding names_lane
  orphan-not t = sym (ap (λ x. x && eqb (length (without a (ids_at 5 w))) 0) (sym pe ∙ t))

-- ---- a row of any table

module _ (k : Rows) (w : List ℕ) (f : (length w ≡ row_words k) × (row_formed k w ≡ true)) where
  pub row-lane : k ≡ Lanes → (length w ≡ 52) × (lane_formed w ≡ true)
  row-lane e = rw e at f

  pub row-rule : k ≡ Rules → (length w ≡ 330) × (rule_formed w ≡ true)
  row-rule e = rw e at f

  pub row-orphan : k ≡ Orphans → (length w ≡ 330) × (rule_formed w ≡ true)
  row-orphan e = rw e at f

  pub row_road : k ≡ Roads → 4 + word 3 w ≤ length w
  row_road e = let g : (length w ≡ 68) × (leb (word 3 w) 64 ≡ true) = rw e at f in omega (arith, g.0, leb-true (word 3 w) 64 g.1)

  pub row_junction : k ≡ Junctions → 5 + word 4 w ≤ length w
  row_junction e = let g : (length w ≡ 69) × (leb (word 4 w) 64 ≡ true) = rw e at f in omega (arith, g.0, leb-true (word 4 w) 64 g.1)

module _ (k : Rows) (w : List ℕ) (a : ℕ) (r : Bool) where
  pub names-lane : k ≡ Lanes → r ≡ lane_row_names a w → r ≡ names_lane k a w
  unfolding names_lane
  names-lane e f = rw e f

  pub names_road : k ≡ Roads → r ≡ has a (ids_at 3 w) → r ≡ names_lane k a w
  unfolding names_lane
  names_road e f = rw e f

  pub names_junction : k ≡ Junctions → r ≡ has a (ids_at 4 w) → r ≡ names_lane k a w
  unfolding names_lane
  names_junction e f = rw e f

  pub names-rule : k ≡ Rules → r ≡ rule_row_names a w → r ≡ names_lane k a w
  unfolding names_lane
  names-rule e f = rw e f

  pub names-orphan : k ≡ Orphans → r ≡ names_lane Orphans a w → r ≡ names_lane k a w
  names-orphan e f = rw e f
