-- The ids of marked rows: one turn of the loop that writes them, and the ids where the marks are a group's. Assumes nothing.
use mathlib.Core.Path.{◌≡◌, refl, sym, ap, ◌∙◌}
use Prim.Native.Nat.{ℕ, zero, suc, ◌+◌, ◌*◌, ◌≤◌, ◌<◌}
use native.Mathlib.Omega.{arith}
use mathlib.Core.Bool.{Bool, true, false, not, cond}
use mathlib.Core.List.{List, [], ◌∷◌, ◌++◌, map, append-nil}
use lib.ListN.{length, get_or, set, take, drop, replicate, length-append, length-map}
use Rattle.lists.specs.Every.{all}
use Rattle.lists.specs.Rows.{over}
use Rattle.lists.specs.Select.{has}
use Rattle.lists.proofs.Rows.{length-keys, length_over, store-behind}
use Rattle.tables.specs.View.{word}
use Rattle.row_tests.specs.Returned.{searchable}
use Rattle.row_tests.proofs.Lanes.{id-at, lanes-few}
use Rattle.group.specs.Walk.{ids_of, group_at, chosen}
use Rattle.group.proofs.Laws.{chosen_more, chosen-told}
use Rattle.group.proofs.Slots.{id-of, group_in_order}

module _ (t : List ℕ) (h : searchable t ≡ true) where
  -- s are the marks, w the list at entry, l at the turn: m ids of the rows before j are written
  module _ (s : List Bool) (w l : List ℕ) (j m : ℕ) (b : j < word 0 t) (c : word 0 t ≤ length s) (d : word 0 t ≤ length w) (k : m ≤ j) (e : m ≡ length (chosen s (take j (ids_of t)))) (f : l ≡ over w 0 (chosen s (take j (ids_of t)))) where
    more : chosen s (take (j + 1) (ids_of t)) ≡ chosen s (take j (ids_of t)) ++ cond (get_or s j false) (get_or (ids_of t) j 0 ∷ []) []
    more = chosen_more s (ids_of t) j (omega (arith, length-keys 52 (word 0 t) (drop 1 t))) (omega arith)

    here : get_or s j false ≡ true → chosen s (take (j + 1) (ids_of t)) ≡ chosen s (take j (ids_of t)) ++ (get_or t (1 + j * 52) 0 ∷ [])
    here q = rw (more, q, id-of t h j b, id-at t j)

    pub choose_one : get_or s j false ≡ true → m + 1 ≡ length (chosen s (take (j + 1) (ids_of t)))
    choose_one q = rw (here q, length-append) (omega arith)

    pub choose-store : get_or s j false ≡ true → set l m (get_or t (1 + j * 52) 0) ≡ over w 0 (chosen s (take (j + 1) (ids_of t)))
    choose-store q =
        ap (λ (v : List ℕ). set v m (get_or t (1 + j * 52) 0)) f
        ∙ store-behind w 0 m (chosen s (take j (ids_of t))) (get_or t (1 + j * 52) 0) (omega arith) (omega arith)
        ∙ ap (over w 0) (sym (here q))

    pub choose-none : get_or s j false ≡ false → chosen s (take j (ids_of t)) ≡ chosen s (take (j + 1) (ids_of t))
    choose-none q = sym (rw (more, q, append-nil))

  -- the ids whose marks are a group's are the group
  pub chosen-group : (i : ℕ) → i < word 0 t → (s0 s : List Bool) → s ≡ over s0 0 (map (λ k. has k (group_at t i)) (ids_of t)) → chosen s (ids_of t) ≡ group_at t i
  unfolding over
  chosen-group i l s0 s e =
      let told = map (λ k. has k (group_at t i)) (ids_of t) in
      ap (λ (v : List Bool). chosen v (ids_of t)) e ∙ chosen-told (λ k. has k (group_at t i)) (ids_of t) (drop (0 + length told) s0) ∙ sym (group_in_order t h i l)

  -- there is a mark for every row
  pub told-room : (i : ℕ) (s0 s : List Bool) → length s0 ≡ 1024 → s ≡ over s0 0 (map (λ k. has k (group_at t i)) (ids_of t)) → word 0 t ≤ length s
  told-room i s0 s a e =
      let told = map (λ k. has k (group_at t i)) (ids_of t) in
      let n : length told ≡ word 0 t = length-map (ids_of t) (λ k. has k (group_at t i)) ∙ length-keys 52 (word 0 t) (drop 1 t) in
      let m : length s ≡ length s0 = ap length e ∙ length_over s0 0 told (omega (arith, lanes-few t h)) in
      omega (arith, lanes-few t h)

-- marks that are not set
pub unset : (n : ℕ) → all not (replicate n false) ≡ true
unfolding all
unset zero = refl
unset (suc n) = unset n
