-- The marks of a lane's group, as they are written. Assumes nothing.
use mathlib.Core.Path.{◌≡◌, refl, sym, ap, ◌∙◌}
use Prim.Native.Nat.{ℕ, ◌≤◌, ◌<◌}
use native.Mathlib.Omega.{arith}
use mathlib.Core.Bool.{Bool, true, false, not, ◌||◌}
use mathlib.Core.List.{List, [], ◌∷◌, map}
use lib.Dec.{eqb, leb, ltb}
use lib.ListN.{length, get_or, set, drop, length-set, length-map}
use lib.Seq.{get_or-set_same, get_or-set_other, ext_get_or}
use borrow.Author.Tests.{eq-eqb, ne_eqb, eqb-true, eqb-false, leb-true, leb-false, ltb-true, ltb-false}
use Rattle.lists.specs.Every.{all}
use Rattle.lists.specs.Rows.{over}
use Rattle.lists.specs.Select.{has}
use Rattle.lists.proofs.Rows.{length-keys, length_over, get_d_over-behind, keys-apart}
use Rattle.tables.specs.View.{word}
use Rattle.row_tests.specs.Returned.{searchable}
use Rattle.row_tests.proofs.Lanes.{lanes-few, lanes-ascend}
use Rattle.lookup.specs.Lookup.{row_at}
use Rattle.group.specs.Walk.{ids_of, group_at}
use Rattle.group.proofs.Laws.{unmarked, get_d_over-front, get_d_map_in}
use Rattle.group.proofs.Slots.{id-of}
use Rattle.split_plan.specs.Placing.{group_marks}

module _ (t : List ℕ) (h : searchable t ≡ true) (i : ℕ) (l : i < word 0 t) where
  -- ids of two rows differ
  apart : (r : ℕ) → r < word 0 t → (r ≡ i → ⊥) → get_or (ids_of t) r 0 ≡ get_or (ids_of t) i 0 → ⊥
  apart r d n q = go (leb r i) refl
    where
      go : (b : Bool) → leb r i ≡ b → ⊥
      go true e =
          let a : r ≤ i = leb-true r i e in
          let p = keys-apart (ids_of t) r i (lanes-ascend t h) a (omega (arith, length-keys 52 (word 0 t) (drop 1 t))) in
          n (omega arith)
      go false e =
          let a : i ≤ r = omega (arith, leb-false r i e) in
          let p = keys-apart (ids_of t) i r (lanes-ascend t h) a (omega (arith, length-keys 52 (word 0 t) (drop 1 t))) in
          n (omega arith)

  own-mark : (r : ℕ) → r < word 0 t → has (get_or (ids_of t) r 0) (word 0 (row_at 52 t i) ∷ []) ≡ eqb r i
  unfolding has
  own-mark r d = go (eqb r i) refl
    where
      go : (b : Bool) → eqb r i ≡ b → (eqb (get_or (ids_of t) r 0) (word 0 (row_at 52 t i)) || false) ≡ b
      go true e = rw (eq-eqb (get_or (ids_of t) r 0) (word 0 (row_at 52 t i)) (ap (λ k. get_or (ids_of t) k 0) (eqb-true r i e) ∙ id-of t h i l))
      go false e = rw (ne_eqb (get_or (ids_of t) r 0) (word 0 (row_at 52 t i)) (λ q. apart r d (eqb-false r i e) (q ∙ sym (id-of t h i l))))

  module _ (s : List Bool) (n : length s ≡ 1024) where
    pub group-marked : (neighbors : Bool) → neighbors ≡ true → (v : List Bool) → v ≡ over s 0 (map (λ k. has k (group_at t i)) (ids_of t)) → v ≡ over s 0 (group_marks t i neighbors)
    unfolding group_at
    group-marked neighbors b v e = rw b e

    abbrev told : List Bool
    told = map (λ k. has k (word 0 (row_at 52 t i) ∷ [])) (ids_of t)

    told-length : length told ≡ word 0 t
    told-length = length-map (ids_of t) (λ k. has k (word 0 (row_at 52 t i) ∷ [])) ∙ length-keys 52 (word 0 t) (drop 1 t)

    pub own_room : i < length s
    own_room = omega (arith, lanes-few t h)

    module _ (a : all not s ≡ true) where
      set-mark : (r : ℕ) → get_or (set s i true) r false ≡ eqb r i
      set-mark r = go (eqb r i) refl
        where
          go : (b : Bool) → eqb r i ≡ b → get_or (set s i true) r false ≡ b
          go true e = ap (λ k. get_or (set s i true) k false) (eqb-true r i e) ∙ get_or-set_same s i true false own_room
          go false e = get_or-set_other s i r true false (eqb-false r i e) ∙ unmarked s r a

      own-only : set s i true ≡ over s 0 told
      own-only =
          ext_get_or false (set s i true) (over s 0 told) (length-set s i true ∙ sym (length_over s 0 told (omega (arith, told-length, lanes-few t h)))) (λ r d. go r (ltb r (word 0 t)) refl)
        where
          go : (r : ℕ) (x : Bool) → ltb r (word 0 t) ≡ x → get_or (set s i true) r false ≡ get_or (over s 0 told) r false
          go r true z =
              let d : r < word 0 t = ltb-true r (word 0 t) z in
              set-mark r ∙ sym (get_d_over-front s told r false (omega (arith, told-length)) ∙ get_d_map_in (λ k. has k (word 0 (row_at 52 t i) ∷ [])) (ids_of t) r 0 false (omega (arith, length-keys 52 (word 0 t) (drop 1 t))) ∙ own-mark r d)
          go r false z =
              let d : word 0 t ≤ r = ltb-false r (word 0 t) z in
              let e : r ≡ i → ⊥ = (λ q. omega arith) in
              set-mark r ∙ ne_eqb r i e ∙ sym (get_d_over-behind s 0 told r false (omega (arith, told-length)) (omega (arith, told-length, lanes-few t h)) ∙ unmarked s r a)

      pub own-marked : (neighbors : Bool) → neighbors ≡ false → set s i true ≡ over s 0 (group_marks t i neighbors)
      own-marked neighbors b = rw b own-only
