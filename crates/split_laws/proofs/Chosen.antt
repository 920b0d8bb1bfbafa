-- The marks of a lane's group pick the lanes of the group, in the table's order. Assumes nothing.
use Rattle.std.specs.Prelude.{Some}
use mathlib.Core.Path.{◌≡◌, refl, sym, ap, ◌∙◌}
use Prim.Native.Nat.{ℕ, ◌+◌}
use native.Mathlib.Omega.{arith}
use mathlib.Core.Bool.{Bool, true, false, not, ◌||◌, cond}
use mathlib.Core.List.{List, [], ◌∷◌, ◌++◌, map}
use lib.Dec.{eqb, ltb}
use lib.ListN.{length, drop}
use borrow.Author.Tests.{ne_eqb, eqb-true, eqb-false, ltb-true}
use Rattle.lists.specs.Rows.{over, keys}
use Rattle.lists.specs.Select.{keep, has, ascending}
use Rattle.lists.specs.Every.{all}
use Rattle.lists.proofs.Booleans.{and_both, and-fst, and-snd}
use Rattle.lists.proofs.Rows.{mapped-reads, length-keys}
use Rattle.lists.proofs.Select.{keep-map, keep-none, map-twice, all-weaken, above-all, ascending-tail}
use Rattle.entities.specs.Records.{Lane}
use Rattle.rules.specs.Split.{group_of}
use Rattle.tables.specs.View.{Tables, word, rows, lane_of, view}
use Rattle.row_tests.specs.Returned.{searchable}
use Rattle.row_tests.proofs.Lanes.{lanes-ascend}
use Rattle.lookup.specs.Lookup.{place_of, row_at}
use Rattle.lookup.proofs.Laws.{place-id, place-within}
use Rattle.group.specs.Walk.{lane_map, ids_of, group_at}
use Rattle.group.proofs.Laws.{has-at}
use Rattle.group.proofs.Slots.{id-of, group-of-view, group_in_order}
use Rattle.split_plan.specs.Placing.{picked, group_marks, marked_rows}

-- ---- marks that are a test's

pub picked-told : {A : Type 0} (p : A → Bool) (xs : List A) (rest : List Bool) → picked (map p xs ++ rest) xs ≡ keep p xs
unfolding picked keep
picked-told p [] [] = refl
picked-told p [] (b ∷ rest) = refl
picked-told p (x ∷ xs) rest = rw (picked-told p xs rest)

-- what holds of all rows holds of the marked
pub all-picked : {A : Type 0} (p : A → Bool) (bs : List Bool) (ws : List A) → all p ws ≡ true → all p (picked bs ws) ≡ true
unfolding picked all
all-picked p [] ws h = refl
all-picked p (b ∷ bs) [] h = refl
all-picked p (true ∷ bs) (w ∷ ws) h = and_both (p w) (all p (picked bs ws)) (and-fst (p w) (all p ws) h) (all-picked p bs ws (and-snd (p w) (all p ws) h))
all-picked p (false ∷ bs) (w ∷ ws) h = all-picked p bs ws (and-snd (p w) (all p ws) h)

ids-rows : (t : List ℕ) → ids_of t ≡ map (word 0) (rows 52 (λ w. w) t)
unfolding keys rows
ids-rows t = sym (mapped-reads 52 (λ (w : List ℕ). w) (word 0) (word 0 t) (drop 1 t))

pub lanes-rows : (t : Tables) → (view t).lanes ≡ map (lane_of t.coordinates) (rows 52 (λ w. w) t.lanes)
unfolding view rows
lanes-rows t = sym (mapped-reads 52 (λ (w : List ℕ). w) (lane_of t.coordinates) (word 0 t.lanes) (drop 1 t.lanes))

-- one of ascending numbers, kept alone
keep_one : (x : ℕ) (ks : List ℕ) → ascending ks ≡ true → has x ks ≡ true → keep (λ y. has y (x ∷ [])) ks ≡ x ∷ []
unfolding has keep ascending
keep_one x [] up h = let z : ◌≡◌ {A = ℕ} 0 1 = cc in absurd (omega arith)
keep_one x (k ∷ ks) up h = go (eqb k x) refl (λ e. keep_one x ks (ascending-tail k ks up) e)
  where
    larger : k ≡ x → (y : ℕ) → ltb k y ≡ true → not (eqb y x || false) ≡ true
    larger e y l = let n : y ≡ x → ⊥ = (λ q. omega (arith, ltb-true k y l)) in rw (ne_eqb y x n)

    go : (b : Bool) → eqb k x ≡ b → (has x ks ≡ true → keep (λ y. has y (x ∷ [])) ks ≡ x ∷ [])
        → cond (b || false) (k ∷ keep (λ y. has y (x ∷ [])) ks) (keep (λ y. has y (x ∷ [])) ks) ≡ x ∷ []
    go true e r =
        let z : k ≡ x = eqb-true k x e in
        let none : keep (λ y. has y (x ∷ [])) ks ≡ [] =
        keep-none (λ y. has y (x ∷ [])) ks (all-weaken (ltb k) (λ y. not (has y (x ∷ []))) ks (larger z) (above-all k ks up)) in
        rw (none, z)
    go false e r =
        let n : x ≡ k → ⊥ = (λ q. eqb-false k x e (sym q)) in
        r (sym (ap (λ (b : Bool). b || has x ks) (ne_eqb x k n)) ∙ h)

-- ---- the lanes of the group

module _ (t : Tables) (own i : ℕ) (ei : place_of 52 t.lanes own ≡ Some i) (neighbors : Bool) where
  group-is : group_of (lane_map t.lanes) (word 0 (row_at 52 t.lanes i)) neighbors ≡ group_of (view t) own neighbors
  group-is = ap (λ n. group_of (lane_map t.lanes) n neighbors) (place-id 52 t.lanes own i ei) ∙ go neighbors
    where
      go : (b : Bool) → group_of (lane_map t.lanes) own b ≡ group_of (view t) own b
      go true = sym (group-of-view t own)
      go false = refl

  -- the group is a part of the table's ids
  in_order : searchable t.lanes ≡ true → (b : Bool)
      → keep (λ k. has k (group_of (lane_map t.lanes) (word 0 (row_at 52 t.lanes i)) b)) (ids_of t.lanes) ≡ group_of (lane_map t.lanes) (word 0 (row_at 52 t.lanes i)) b
  unfolding group_at
  in_order h true = sym (group_in_order t.lanes h i (place-within 52 t.lanes own i ei))
  in_order h false =
      let l = place-within 52 t.lanes own i ei in
      keep_one (word 0 (row_at 52 t.lanes i)) (ids_of t.lanes) (lanes-ascend t.lanes h)
      (has-at (ids_of t.lanes) i (word 0 (row_at 52 t.lanes i)) (omega (arith, length-keys 52 (word 0 t.lanes) (drop 1 t.lanes))) (id-of t.lanes h i l))

  module _ (seen₀ seen : List Bool) (es : seen ≡ over seen₀ 0 (group_marks t.lanes i neighbors)) where
    abbrev in_group : List ℕ → Bool
    in_group w = has (word 0 w) (group_of (view t) own neighbors)

    pub marks-told : group_marks t.lanes i neighbors ≡ map in_group (rows 52 (λ w. w) t.lanes)
    marks-told =
        ap (λ g. map (λ k. has k g) (ids_of t.lanes)) group-is
        ∙ ap (map (λ k. has k (group_of (view t) own neighbors))) (ids-rows t.lanes)
        ∙ map-twice (word 0) (λ k. has k (group_of (view t) own neighbors)) (rows 52 (λ w. w) t.lanes)

    rows-kept : marked_rows seen t.lanes ≡ keep in_group (rows 52 (λ w. w) t.lanes)
    unfolding over
    rows-kept =
        ap (λ s. picked s (rows 52 (λ (w : List ℕ). w) t.lanes)) (es ∙ ap (over seen₀ 0) marks-told)
        ∙ picked-told in_group (rows 52 (λ w. w) t.lanes) (drop (0 + length (map in_group (rows 52 (λ (w : List ℕ). w) t.lanes))) seen₀)

    -- "the group is the lane, or with neighbours everything reached through neighbour slots, ascending"
    pub lanes-chosen : map (lane_of t.coordinates) (marked_rows seen t.lanes) ≡ keep (λ x. has x.id (group_of (view t) own neighbors)) (view t).lanes
    unfolding lane_of
    lanes-chosen =
        ap (map (lane_of t.coordinates)) rows-kept
        ∙ sym (ap (keep (λ (x : Lane). has x.id (group_of (view t) own neighbors))) (lanes-rows t)
        ∙ keep-map (λ (x : Lane). has x.id (group_of (view t) own neighbors)) (lane_of t.coordinates) (rows 52 (λ w. w) t.lanes))

    -- their ids are the group
    pub ids-chosen : searchable t.lanes ≡ true → map (word 0) (marked_rows seen t.lanes) ≡ group_of (view t) own neighbors
    ids-chosen h =
        ap (map (word 0)) rows-kept
        ∙ sym (keep-map (λ k. has k (group_of (view t) own neighbors)) (word 0) (rows 52 (λ w. w) t.lanes))
        ∙ ap (keep (λ k. has k (group_of (view t) own neighbors))) (sym (ids-rows t.lanes))
        ∙ rw group-is at (in_order h neighbors)
