-- Setting a neighbour keeps neighbours reciprocal: on slots as a function of a lane and a side.
use Rattle.std.specs.Prelude.{Option, None, Some}
use mathlib.Core.Path.{◌≡◌, refl, sym, ap, ◌∙◌}
use mathlib.Core.Bool.{Bool, true, false, ◌&&◌, ◌||◌, cond, true≢false}
use Prim.Native.Nat.{ℕ}
use native.Mathlib.Omega.{arith}
use lib.Dec.{eqb}
use borrow.Author.Tests.{eqb-true, eq-eqb}
use Rattle.lists.proofs.Booleans.{and_both, and-fst, and-snd}
use Rattle.entities.specs.Types.{reciprocal_side}
use Rattle.entities.specs.declared.Side.{Side}
use Rattle.entities.specs.declared.Side.TheVariants as S
use Rattle.entities.specs.declared.NeighborDirection.{NeighborDirection}
use Rattle.entities.specs.declared.Neighbor.{Neighbor}
use Rattle.rules.specs.Edit.{same_side, answering, returned, answer_side, slot_after}
use Rattle.rules.proofs.Reciprocal.{twice}

abbrev pub nb : ℕ → NeighborDirection → Neighbor
nb y d = record { lane = y; direction = d }

-- ---- sides

pub side-self : (s : Side) → same_side s s ≡ true
side-self S.Left = refl
side-self S.Right = refl

pub same-side : (s t : Side) → same_side s t ≡ true → s ≡ t
same-side S.Left S.Left h = refl
same-side S.Left S.Right h = absurd (true≢false (sym h))
same-side S.Right S.Left h = absurd (true≢false (sym h))
same-side S.Right S.Right h = refl

not-both : (b : Bool) → b ≡ true → b ≡ false → ⊥
not-both b t f = true≢false (sym t ∙ f)

some_is : {A : Type 0} {x y : A} → Some x ≡ Some y → x ≡ y
some_is e = cc

no-some : {A : Type 0} (x : A) → None ≡ Some x → ⊥
no-some x e = let z : ◌≡◌ {A = ℕ} 0 1 = cc in nothing z
  where
    nothing : ◌≡◌ {A = ℕ} 0 1 → ⊥
    nothing z = omega arith

-- ---- which slot answers

pub answers : (side : Side) (i : ℕ) (d : NeighborDirection) → answering side (Some (nb i d)) i (reciprocal_side side d) ≡ true
answers side i d = and_both (eqb i i) (same_side (reciprocal_side side d) (reciprocal_side side d)) (eq-eqb i i refl) (side-self (reciprocal_side side d))

answer-lane : (side : Side) (n : Neighbor) (i : ℕ) (s : Side) → answering side (Some n) i s ≡ true → i ≡ n.lane
answer-lane side n i s t = eqb-true i n.lane (and-fst (eqb i n.lane) (same_side s (reciprocal_side side n.direction)) t)

answer-side : (side : Side) (n : Neighbor) (i : ℕ) (s : Side) → answering side (Some n) i s ≡ true → s ≡ reciprocal_side side n.direction
answer-side side n i s t = same-side s (reciprocal_side side n.direction) (and-snd (eqb i n.lane) (same_side s (reciprocal_side side n.direction)) t)

-- ---- the slots before and after

abbrev pub Slots : Type 0
Slots = ℕ → Side → Option Neighbor

-- every neighbour is answered
abbrev pub Answered : Slots → Type 0
Answered t = (x : ℕ) (s : Side) (y : ℕ) (d : NeighborDirection) → t x s ≡ Some (nb y d) → t y (reciprocal_side s d) ≡ Some (nb x d)

abbrev pub held_at : Slots → Side → Option Neighbor → Option Neighbor
held_at t side None = None
held_at t side (Some n) = t n.lane (reciprocal_side side n.direction)

abbrev pub set_slots : Slots → ℕ → Side → Option Neighbor → Slots
set_slots t a side new x s = slot_after a side new (t a side) (held_at t side new) x s (t x s)

-- the parts of a slot's new contents
module _ (t : Slots) (ok : Answered t) (a : ℕ) (side : Side) where
  -- what a slot holds is freed where it answers: the slot of a, or the one that a new neighbour takes
  freed-twice : (u : ℕ) (v : Side) (o : Option Neighbor) → t u v ≡ o → (x : ℕ) (s : Side) (y : ℕ) (d : NeighborDirection) → t x s ≡ Some (nb y d)
      → answering v o y (reciprocal_side s d) ≡ true → (x ≡ u) × (s ≡ v)
  freed-twice u v None e x s y d h t' = absurd (true≢false (sym t'))
  freed-twice u v (Some n) e x s y d h t' =
      let l : y ≡ n.lane = answer-lane v n y (reciprocal_side s d) t' in
      let r : reciprocal_side s d ≡ reciprocal_side v n.direction = answer-side v n y (reciprocal_side s d) t' in
      let back : t n.lane (reciprocal_side v n.direction) ≡ Some (nb u n.direction) = ok u v n.lane n.direction e in
      let here : t y (reciprocal_side s d) ≡ Some (nb x d) = ok x s y d h in
      let both : Some (nb x d) ≡ Some (nb u n.direction) = sym here ∙ (ap (λ i. t i (reciprocal_side s d)) l ∙ (ap (t n.lane) r ∙ back)) in
      let same = some_is both in
      let lanes : x ≡ u = ap (λ k. k.lane) same in
      let ways : d ≡ n.direction = ap (λ k. k.direction) same in
      (lanes, sym (twice s d) ∙ (ap (λ q. reciprocal_side q d) r ∙ (ap (λ w. reciprocal_side (reciprocal_side v w) d) (sym ways) ∙ twice v d)))

  refute : (b : Bool) → (b ≡ true → ⊥) → b ≡ false
  refute true h = absurd (h refl)
  refute false h = refl

  or_fst : (p q : Bool) → (p || q) ≡ false → p ≡ false
  or_fst true q h = h
  or_fst false q h = refl

  or_snd : (p q : Bool) → (p || q) ≡ false → q ≡ false
  or_snd true q h = absurd (true≢false h)
  or_snd false q h = h

  -- slot (x, s) is the one that is set
  abbrev is_set : ℕ → Side → Bool
  is_set x s = eqb x a && same_side s side

  -- slot (x, s) answered what was there before
  abbrev is_freed : Option Neighbor → ℕ → Side → Bool
  is_freed new x s = answering side (t a side) x s || answering (answer_side side new) (held_at t side new) x s

  module _ (new : Option Neighbor) (x : ℕ) (s : Side) (y : ℕ) (d : NeighborDirection) (h : t x s ≡ Some (nb y d))
      (n1 : is_set x s ≡ false) (n2 : answering side new x s ≡ false) (n3 : is_freed new x s ≡ false) where
    -- the slot that answers a slot that is left alone is left alone
    alone-set : is_set y (reciprocal_side s d) ≡ false
    alone-set =
        refute (is_set y (reciprocal_side s d)) (λ u.
        let l : y ≡ a = eqb-true y a (and-fst (eqb y a) (same_side (reciprocal_side s d) side) u) in
        let r : reciprocal_side s d ≡ side = same-side (reciprocal_side s d) side (and-snd (eqb y a) (same_side (reciprocal_side s d) side) u) in
        let old : t a side ≡ Some (nb x d) = ap (λ i. t i side) (sym l) ∙ (ap (t y) (sym r) ∙ ok x s y d h) in
        let back : s ≡ reciprocal_side side d = sym (twice s d) ∙ ap (λ q. reciprocal_side q d) r in
        let w : answering side (t a side) x s ≡ true = ap (λ o. answering side o x s) old ∙ (ap (answering side (Some (nb x d)) x) back ∙ answers side x d) in
        not-both (answering side (t a side) x s) w (or_fst (answering side (t a side) x s) (answering (answer_side side new) (held_at t side new) x s) n3))

    alone-freed-old : answering side (t a side) y (reciprocal_side s d) ≡ false
    alone-freed-old =
        refute (answering side (t a side) y (reciprocal_side s d)) (λ u.
        let (l, r) = freed-twice a side (t a side) refl x s y d h u in
        not-both (is_set x s) (and_both (eqb x a) (same_side s side) (eq-eqb x a l) (ap (λ q. same_side q side) r ∙ side-self side)) n1)

  -- the same of the slot that the new neighbour takes
  alone-new : (new : Option Neighbor) (x : ℕ) (s : Side) (y : ℕ) (d : NeighborDirection) → t x s ≡ Some (nb y d)
      → is_freed new x s ≡ false → answering side new y (reciprocal_side s d) ≡ false
  alone-new None x s y d h n3 = refl
  alone-new (Some n) x s y d h n3 =
      refute (answering side (Some n) y (reciprocal_side s d)) (λ u.
      let l : y ≡ n.lane = answer-lane side n y (reciprocal_side s d) u in
      let r : reciprocal_side s d ≡ reciprocal_side side n.direction = answer-side side n y (reciprocal_side s d) u in
      let v = reciprocal_side side n.direction in
      let held : t n.lane v ≡ Some (nb x d) = ap (λ i. t i v) (sym l) ∙ (ap (t y) (sym r) ∙ ok x s y d h) in
      let back : s ≡ reciprocal_side v d = sym (twice s d) ∙ ap (λ q. reciprocal_side q d) r in
      let w : answering v (t n.lane v) x s ≡ true = ap (λ o. answering v o x s) held ∙ (ap (answering v (Some (nb x d)) x) back ∙ answers v x d) in
      not-both (answering v (t n.lane v) x s) w (or_snd (answering side (t a side) x s) (answering v (t n.lane v) x s) n3))

  alone-freed-held : (new : Option Neighbor) (x : ℕ) (s : Side) (y : ℕ) (d : NeighborDirection) → t x s ≡ Some (nb y d)
      → answering side new x s ≡ false → answering (answer_side side new) (held_at t side new) y (reciprocal_side s d) ≡ false
  alone-freed-held None x s y d h n2 = refl
  alone-freed-held (Some n) x s y d h n2 =
      refute (answering (reciprocal_side side n.direction) (t n.lane (reciprocal_side side n.direction)) y (reciprocal_side s d)) (λ u.
      let (l, r) = freed-twice n.lane (reciprocal_side side n.direction) (t n.lane (reciprocal_side side n.direction)) refl x s y d h u in
      not-both (answering side (Some n) x s)
      (and_both (eqb x n.lane) (same_side s (reciprocal_side side n.direction)) (eq-eqb x n.lane l) (ap (λ q. same_side q (reciprocal_side side n.direction)) r ∙ side-self (reciprocal_side side n.direction)))
      n2)

  -- a slot by its three tests
  by_tests : (new : Option Neighbor) (x : ℕ) (s : Side) (p q r : Bool) → is_set x s ≡ p → answering side new x s ≡ q → is_freed new x s ≡ r
      → set_slots t a side new x s ≡ cond p new (cond q (returned a new) (cond r None (t x s)))
  by_tests new x s p q r e f g = rw (e, f, g)

  -- a slot that is left alone is still answered
  left_alone : (new : Option Neighbor) (x : ℕ) (s : Side) (y : ℕ) (d : NeighborDirection) → t x s ≡ Some (nb y d)
      → is_set x s ≡ false → answering side new x s ≡ false → is_freed new x s ≡ false → set_slots t a side new y (reciprocal_side s d) ≡ Some (nb x d)
  left_alone new x s y d h n1 n2 n3 =
      by_tests new y (reciprocal_side s d) false false false (alone-set new x s y d h n1 n2 n3) (alone-new new x s y d h n3)
      (rw (alone-freed-old new x s y d h n1 n2 n3, alone-freed-held new x s y d h n2)) ∙ ok x s y d h

  -- What remains after the tests of a slot that holds something.
  rest-answered : (new : Option Neighbor) (x : ℕ) (s : Side) (y : ℕ) (d : NeighborDirection) → is_set x s ≡ false → answering side new x s ≡ false
      → (r : Bool) → is_freed new x s ≡ r → cond r None (t x s) ≡ Some (nb y d) → set_slots t a side new y (reciprocal_side s d) ≡ Some (nb x d)
  rest-answered new x s y d n1 n2 true n3 h = absurd (no-some (nb y d) h)
  rest-answered new x s y d n1 n2 false n3 h = left_alone new x s y d h n1 n2 n3

  pub answered-none : Answered (set_slots t a side None)
  answered-none x s y d h = go (is_set x s) refl
    where
      go : (p : Bool) → is_set x s ≡ p → set_slots t a side None y (reciprocal_side s d) ≡ Some (nb x d)
      go true e = absurd (no-some (nb y d) (sym (by_tests None x s true false (is_freed None x s) e refl refl) ∙ h))
      go false e = rest-answered None x s y d e refl (is_freed None x s) refl (sym (by_tests None x s false false (is_freed None x s) e refl refl) ∙ h)

  module _ (n : Neighbor) (other : n.lane ≡ a → ⊥) where
    -- the set slot is answered by the new neighbour's
    set-slot : (x : ℕ) (s : Side) (y : ℕ) (d : NeighborDirection) → is_set x s ≡ true → Some n ≡ Some (nb y d)
        → set_slots t a side (Some n) y (reciprocal_side s d) ≡ Some (nb x d)
    set-slot x s y d e h =
        let l : x ≡ a = eqb-true x a (and-fst (eqb x a) (same_side s side) e) in
        let r : s ≡ side = same-side s side (and-snd (eqb x a) (same_side s side) e) in
        let m : n ≡ nb y d = some_is h in
        let ny : n.lane ≡ y = ap (λ k. k.lane) m in
        let nd : n.direction ≡ d = ap (λ k. k.direction) m in
        let u : answering side (Some n) y (reciprocal_side s d) ≡ true =
        ap (λ k. answering side (Some k) y (reciprocal_side s d)) m ∙ (ap (λ q. answering side (Some (nb y d)) y (reciprocal_side q d)) r ∙ answers side y d) in
        let v : is_set y (reciprocal_side s d) ≡ false = refute (is_set y (reciprocal_side s d)) (λ w.
        other (ny ∙ eqb-true y a (and-fst (eqb y a) (same_side (reciprocal_side s d) side) w))) in
        by_tests (Some n) y (reciprocal_side s d) false true (is_freed (Some n) y (reciprocal_side s d)) v u refl
        ∙ (ap (λ w. Some (nb a w)) nd ∙ ap (λ i. Some (nb i d)) (sym l))

    -- the new neighbour's slot is answered by the set one
    taken-slot : (x : ℕ) (s : Side) (y : ℕ) (d : NeighborDirection) → answering side (Some n) x s ≡ true → Some (nb a n.direction) ≡ Some (nb y d)
        → set_slots t a side (Some n) y (reciprocal_side s d) ≡ Some (nb x d)
    taken-slot x s y d e h =
        let l : x ≡ n.lane = answer-lane side n x s e in
        let r : s ≡ reciprocal_side side n.direction = answer-side side n x s e in
        let m = some_is h in
        let ay : a ≡ y = ap (λ k. k.lane) m in
        let nd : n.direction ≡ d = ap (λ k. k.direction) m in
        let back : reciprocal_side s d ≡ side = ap (λ q. reciprocal_side q d) r ∙ (ap (λ w. reciprocal_side (reciprocal_side side w) d) nd ∙ twice side d) in
        let v : is_set y (reciprocal_side s d) ≡ true =
        and_both (eqb y a) (same_side (reciprocal_side s d) side) (eq-eqb y a (sym ay)) (ap (λ q. same_side q side) back ∙ side-self side) in
        by_tests (Some n) y (reciprocal_side s d) true (answering side (Some n) y (reciprocal_side s d)) (is_freed (Some n) y (reciprocal_side s d)) v refl refl
        ∙ (ap (λ w. Some (nb n.lane w)) nd ∙ ap (λ i. Some (nb i d)) (sym l))

    pub answered-some : Answered (set_slots t a side (Some n))
    answered-some x s y d h = go (is_set x s) (answering side (Some n) x s) refl refl
      where
        go : (p q : Bool) → is_set x s ≡ p → answering side (Some n) x s ≡ q → set_slots t a side (Some n) y (reciprocal_side s d) ≡ Some (nb x d)
        go true q e f = set-slot x s y d e (sym (by_tests (Some n) x s true q (is_freed (Some n) x s) e f refl) ∙ h)
        go false true e f = taken-slot x s y d f (sym (by_tests (Some n) x s false true (is_freed (Some n) x s) e f refl) ∙ h)
        go false false e f = rest-answered (Some n) x s y d e f (is_freed (Some n) x s) refl (sym (by_tests (Some n) x s false false (is_freed (Some n) x s) e f refl) ∙ h)
