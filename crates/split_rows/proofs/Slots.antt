-- The neighbours of a half, in words: the second half of a cut lane is found by the lane's place among the cut ones. Assumes nothing.
use Rattle.std.specs.Prelude.{Option, None, Some}
use mathlib.Core.Path.{◌≡◌, refl, sym, ap, ◌∙◌}
use Prim.Native.Nat.{ℕ, zero, suc, ◌+◌, ◌*◌, ◌^◌, ◌≤◌, ◌<◌}
use native.Mathlib.Omega.{arith}
use mathlib.Core.Bool.{true, false}
use mathlib.Core.List.{List, [], ◌∷◌}
use lib.Dec.{eqb}
use lib.ListN.{length, get_or, set}
use lib.Seq.{set-get_or, set-set}
use borrow.Author.Tests.{eq-eqb, ne_eqb}
use Rattle.lists.specs.Rows.{over, keys, row_with}
use Rattle.lists.specs.Select.{ascending, numbered, second_of}
use Rattle.lists.proofs.Rows.{keys-one, one_found, found_within, store_at, store-behind, over-kept}
use Rattle.entities.specs.declared.Neighbor.{Neighbor}
use Rattle.entities.specs.Types.{same, opposing}
use Rattle.rules.specs.Split.{first_slot, second_slot}
use Rattle.tables.specs.View.{word, slot_at}
use Rattle.store.specs.Rows.{set_slot}
use Rattle.grow.proofs.Growing.{number_at, second-numbered}
use Rattle.split_rows.specs.Halves.{Cuts}

-- ---- a cut lane is looked for

module _ (cut : List ℕ) (next : ℕ) (f : Cuts next cut) where
  pub cut-asks : (0 < 1) × ((length cut * 1 ≤ length cut) × (ascending (keys 1 (length cut) cut) ≡ true))
  cut-asks = (omega arith, (omega arith, rw (keys-one cut) f.ascend))

  -- its second half's id is there
  pub second_fits : (i : ℕ) (r : Option ℕ) → r ≡ row_with i (keys 1 (length cut) cut) → (k : ℕ) → r ≡ Some k → next + k < 2 ^ 64
  second_fits i r e k t = omega (arith, found_within i cut k (one_found i cut r e ∙ t), f.ids)

-- ---- a slot that stays

module _ (w : List ℕ) (k : ℕ) (h : k + 2 ≤ length w) where
  slot-way : word k w ≡ 0 → over w k (0 ∷ []) ≡ w
  slot-way z = ap (λ x. over w k (x ∷ [])) (sym z) ∙ (sym (store_at w k (word k w) (omega arith)) ∙ set-get_or w k 0)

  slot-lane : (way x : ℕ) → word k w ≡ way → set w (k + 1) x ≡ over w k (way ∷ x ∷ [])
  slot-lane way x z =
      store_at w (k + 1) x (omega arith)
      ∙ (over-kept w k (x ∷ []) 0 (omega arith) ∙ ap (λ y. over w k (y ∷ x ∷ [])) z)

  slot-own : (way : ℕ) → word k w ≡ way → w ≡ over w k (way ∷ word (suc k) w ∷ [])
  slot-own way z =
      let e : k + 1 ≡ suc k = omega arith in
      sym (set-get_or w (k + 1) 0) ∙ (slot-lane way (get_or w (k + 1) 0) z ∙ ap (λ j. over w k (way ∷ get_or w j 0 ∷ [])) e)

-- what a slot reads as
module _ (w : List ℕ) (k : ℕ) where
  reads_none : word k w ≡ 0 → slot_at k w ≡ None
  reads_none z = rw (eq-eqb (word k w) 0 z)

  reads_same : word k w ≡ 1 → slot_at k w ≡ Some (same (word (suc k) w))
  reads_same z =
      let a : eqb (word k w) 0 ≡ false = ne_eqb (word k w) 0 (λ e. omega arith) in
      rw (a, eq-eqb (word k w) 1 z)

  reads-opposite : word k w ≡ 2 → slot_at k w ≡ Some (opposing (word (suc k) w))
  reads-opposite z =
      let a : eqb (word k w) 0 ≡ false = ne_eqb (word k w) 0 (λ e. omega arith) in
      let b : eqb (word k w) 1 ≡ false = ne_eqb (word k w) 1 (λ e. omega arith) in
      rw (a, b)

-- ---- slots of halves, by where the neighbour is found

module _ (cut : List ℕ) (next : ℕ) (i : ℕ) where
  abbrev hs : List (ℕ × ℕ)
  hs = numbered next cut

  number : (r : Option ℕ) → row_with i cut ≡ r → second_of hs i ≡ number_at next r
  number r e = second-numbered next i cut ∙ ap (number_at next) e

  first-same : first_slot hs (Some (same i)) ≡ Some (same i)
  first-same = go (second_of hs i)
    where
      go : (o : Option ℕ) → elim o as (λ _. Option Neighbor) [ None ↦ Some (same i) | Some j ↦ Some (same i) ] ≡ Some (same i)
      go None = refl
      go (Some j) = refl

  first-cut : (k : ℕ) → row_with i cut ≡ Some k → first_slot hs (Some (opposing i)) ≡ Some (opposing (next + k))
  first-cut k t = ap (λ o. elim o as (λ _. Option Neighbor) [ None ↦ Some (opposing i) | Some j ↦ Some (opposing j) ]) (number (Some k) t)

  first-uncut : row_with i cut ≡ None → first_slot hs (Some (opposing i)) ≡ Some (opposing i)
  first-uncut t = ap (λ o. elim o as (λ _. Option Neighbor) [ None ↦ Some (opposing i) | Some j ↦ Some (opposing j) ]) (number None t)

  second-same : (k : ℕ) → row_with i cut ≡ Some k → second_slot hs (Some (same i)) ≡ Some (same (next + k))
  second-same k t = ap (λ o. elim o as (λ _. Option Neighbor) [ None ↦ None | Some j ↦ Some (same j) ]) (number (Some k) t)

  second-opposite : (k : ℕ) → row_with i cut ≡ Some k → second_slot hs (Some (opposing i)) ≡ Some (opposing i)
  second-opposite k t = ap (λ o. elim o as (λ _. Option Neighbor) [ None ↦ None | Some j ↦ Some (opposing i) ]) (number (Some k) t)

  same-alone : row_with i cut ≡ None → second_slot hs (Some (same i)) ≡ None
  same-alone t = ap (λ o. elim o as (λ _. Option Neighbor) [ None ↦ None | Some j ↦ Some (same j) ]) (number None t)

  opposite-alone : row_with i cut ≡ None → second_slot hs (Some (opposing i)) ≡ None
  opposite-alone t = ap (λ o. elim o as (λ _. Option Neighbor) [ None ↦ None | Some j ↦ Some (opposing i) ]) (number None t)

-- ---- what the code writes

module _ (w : List ℕ) (k : ℕ) (cut : List ℕ) (next : ℕ) (h : k + 2 ≤ length w) where
  abbrev first_in : List ℕ
  first_in = set_slot k (first_slot (numbered next cut) (slot_at k w)) w

  pub first-kept : word k w ≤ 2 → (word k w ≡ 2 → ⊥) → w ≡ first_in
  first-kept l n = go (word k w) refl
    where
      go : (x : ℕ) → word k w ≡ x → w ≡ first_in
      go zero z = unfold set_slot in rw (reads_none w k z) (sym (slot-way w k h z))
      go (suc zero) z = unfold set_slot in rw (reads_same w k z, first-same cut next (word (suc k) w)) (slot-own w k h 1 z)
      go (suc (suc x)) z = absurd (n (omega arith))

  -- an opposite neighbour that is cut is the second half
  module _ (z : word k w ≡ 2) (r : Option ℕ) (e : r ≡ row_with (word (k + 1) w) (keys 1 (length cut) cut)) where
    lane : word (k + 1) w ≡ word (suc k) w
    lane = let n : k + 1 ≡ suc k = omega arith in ap (λ j. get_or w j 0) n

    place : row_with (word (suc k) w) cut ≡ r
    place = ap (λ i. row_with i cut) (sym lane) ∙ one_found (word (k + 1) w) cut r e

    pub first_found : (x : ℕ) → r ≡ Some x → set w (k + 1) (next + x) ≡ first_in
    unfolding set_slot
    first_found x t = rw (reads-opposite w k z, first-cut cut next (word (suc k) w) x (place ∙ t)) (slot-lane w k h 2 (next + x) z)

    pub first_absent : r ≡ None → w ≡ first_in
    unfolding set_slot
    first_absent t = rw (reads-opposite w k z, first-uncut cut next (word (suc k) w) (place ∙ t)) (slot-own w k h 2 z)

module _ (w v : List ℕ) (k : ℕ) (cut : List ℕ) (next : ℕ) (h : k + 2 ≤ length w) where
  abbrev second_in : List ℕ
  second_in = set_slot k (second_slot (numbered next cut) (slot_at k v)) w

  cleared : set w k 0 ≡ over w k (0 ∷ [])
  cleared = store_at w k 0 (omega arith)

  pub second_empty : word k v ≡ 0 → set w k 0 ≡ second_in
  unfolding set_slot
  second_empty z = rw (reads_none v k z) cleared

  module _ (l : word k v ≤ 2) (n : word k v ≡ 0 → ⊥) (r : Option ℕ) (e : r ≡ row_with (word (k + 1) v) (keys 1 (length cut) cut)) where
    lane-read : word (k + 1) v ≡ word (suc k) v
    lane-read = let n : k + 1 ≡ suc k = omega arith in ap (λ j. get_or v j 0) n

    placed : row_with (word (suc k) v) cut ≡ r
    placed = ap (λ i. row_with i cut) (sym lane-read) ∙ one_found (word (k + 1) v) cut r e

    opposite : (word k v ≡ 1 → ⊥) → word k v ≡ 2
    opposite m = omega arith

    pub second-absent : r ≡ None → set w k 0 ≡ second_in
    second-absent t = go (word k v) refl
      where
        go : (x : ℕ) → word k v ≡ x → set w k 0 ≡ second_in
        go zero z = absurd (n z)
        go (suc zero) z = unfold set_slot in rw (reads_same v k z, same-alone cut next (word (suc k) v) (placed ∙ t)) cleared
        go (suc (suc x)) z = unfold set_slot in rw (reads-opposite v k (omega arith), opposite-alone cut next (word (suc k) v) (placed ∙ t)) cleared

    module _ (x : ℕ) (t : r ≡ Some x) where
      written : (way y : ℕ) → set (set (set w k 0) k way) (k + 1) y ≡ over w k (way ∷ y ∷ [])
      written way y =
          ap (λ u. set u (k + 1) y) (set-set w k 0 way ∙ store_at w k way (omega arith))
          ∙ store-behind w k (k + 1) (way ∷ []) y refl (omega arith)

      pub second-along : word k v ≡ 1 → set (set (set (set w k 0) k (word k v)) (k + 1) (word (k + 1) v)) (k + 1) (next + x) ≡ second_in
      unfolding set_slot
      second-along z =
          rw (reads_same v k z, second-same cut next (word (suc k) v) x (placed ∙ t))
          (set-set (set (set w k 0) k (word k v)) (k + 1) (word (k + 1) v) (next + x) ∙ (ap (λ y. set (set (set w k 0) k y) (k + 1) (next + x)) z ∙ written 1 (next + x)))

      pub second_against : (word k v ≡ 1 → ⊥) → set (set (set w k 0) k (word k v)) (k + 1) (word (k + 1) v) ≡ second_in
      unfolding set_slot
      second_against m =
          rw (reads-opposite v k (opposite m), second-opposite cut next (word (suc k) v) x (placed ∙ t))
          (ap (λ y. set (set (set w k 0) k y) (k + 1) (word (k + 1) v)) (opposite m) ∙ (written 2 (word (k + 1) v) ∙ ap (λ y. over w k (2 ∷ y ∷ [])) lane-read))
