-- split_lane: the predecessors of the cut map are the link book's entry too, so links stay reciprocal; and the ids of its lanes. Assumes nothing.
use Rattle.std.specs.Prelude.{Option, None, Some}
use mathlib.Core.Path.{◌≡◌, refl, sym, ap, ◌∙◌}
use mathlib.Core.Bool.{true, false, not, ◌&&◌, ◌||◌, true≢false}
use mathlib.Core.List.{List, [], ◌∷◌, ◌++◌, map}
use Prim.Native.Nat.{ℕ}
use native.Mathlib.Omega.{arith}
use lib.Dec.{eqb, ltb, leb}
use borrow.Author.Tests.{eqb-true, eq-eqb, ne_eqb, ltb-true, lt-ltb, leb-true}
use Rattle.lists.specs.Every.{all}
use Rattle.lists.specs.Select.{find, has, ascending}
use Rattle.lists.proofs.Booleans.{same_test, or-false}
use Rattle.lists.proofs.Select.{all_map, all-weaken, on_found, keys-map, ascending-append}
use Rattle.entities.specs.Records.{Lane, Map}
use Rattle.rules.specs.Map.{lane, lane_ids, leads_to, comes_from}
use Rattle.rules.specs.Sound.{links_reciprocal}
use Rattle.rules.specs.Split.{LanePlan, Piece, halves, cut_lane, second_half, second_halves, came_from}
use Rattle.rules.specs.Book.{book_split}
use Rattle.rules.proofs.Relations.{comes-found}
use Rattle.rules.proofs.Reciprocal.{links-agree, agree-links}
use Rattle.laws.proofs.Find.{no-some, some_is, numbered, numbered-from, numbered-up}
use Rattle.laws.proofs.SplitBook.{or_swap, has_one, is_cut, book-is, has-came, split-leads}
use Rattle.laws.proofs.SplitLanes.{map-map, Numbered, first_id, second_id, seconds-numbered, Cutting, found_by_first, by_second, cut_lanes, first-id, second-id, first_lane, first-second, second-first, old-no-second, cut-id, lane_at, lane-at}

-- ---- general

pub map-append : {A B : Type 0} (f : A → B) (xs ys : List A) → map f (xs ++ ys) ≡ map f xs ++ map f ys
map-append f [] ys = refl
map-append f (x ∷ xs) ys = ap (λ zs. f x ∷ zs) (map-append f xs ys)

module _ (m : Map) (ps : List LanePlan) (next : ℕ) (c : Cutting m ps next) where
  -- ---- the ids of the lanes

  pub cut-ids : (xs : List Piece) → map (λ l. l.id) (cut_lanes m ps xs next) ≡ lane_ids m ++ map second_id (numbered next ps)
  cut-ids xs =
      map-append (λ l. l.id) (map (cut_lane ps xs (halves next ps)) m.lanes) (second_halves xs (halves next ps) next ps)
      ∙ (ap (λ is. is ++ map (λ l. l.id) (second_halves xs (halves next ps) next ps))
      (keys-map (λ l. l.id) (cut_lane ps xs (halves next ps)) (cut-id m ps next c.choice xs) m.lanes)
      ∙ ap (λ is. lane_ids m ++ is)
      (ap (λ ls. map (λ l. l.id) ls) (seconds-numbered xs (halves next ps) next ps)
      ∙ map-map (λ l. l.id) (λ (z : Numbered). second_half xs (halves next ps) z.0 z.1) (numbered next ps)))

  pub cut_up : (xs : List Piece) → ascending (map (λ l. l.id) (cut_lanes m ps xs next)) ≡ true
  cut_up xs =
      ap ascending (cut-ids xs)
      ∙ ascending-append (lane_ids m) (map second_id (numbered next ps)) c.choice.up (numbered-up next ps)
      (all-weaken (λ i. ltb i next) (λ i. all (ltb i) (map second_id (numbered next ps))) (lane_ids m) (λ i t.
      let u = ltb-true i next t in
      all_map (ltb i) second_id (numbered next ps)
      ∙ all-weaken (λ z. leb next (second_id z)) (λ z. ltb i (second_id z)) (numbered next ps) (λ z v. let w = leb-true next (second_id z) v in lt-ltb i (second_id z) (omega arith))
      (numbered-from next ps next (omega arith))) c.fresh)

  -- ---- links of the cut map

  module _ (xs : List Piece) (n : Map) (same : n.lanes ≡ cut_lanes m ps xs next) where
    pub after-up : ascending (lane_ids n) ≡ true
    after-up = ap (λ ls. ascending (map (λ l. l.id) ls)) same ∙ cut_up xs

    pub after-lane : (x : ℕ) → lane n x ≡ lane_at m ps next c.choice xs x (lane m x) (found_by_first ps next x) (by_second ps next x)
    unfolding lane
    after-lane x = ap (find (λ l. eqb l.id x)) same ∙ lane-at m ps next c.choice xs x

    -- what a lane comes from
    comes-was : (x y : ℕ) (o : Option Lane) → lane m y ≡ o → comes_from m x y ≡ on_found (λ l. has x l.predecessors) o
    comes-was x y o e = comes-found m x y c.choice.up ∙ ap (on_found (λ l. has x l.predecessors)) e

    -- a first half leads to no lane that was there
    no-pair : (x y : ℕ) → by_second ps next y ≡ None → on_found (λ z. eqb y (second_id z)) (found_by_first ps next x) ≡ false
    no-pair x y e = go (found_by_first ps next x) refl
      where
        go : (o : Option Numbered) → found_by_first ps next x ≡ o → on_found (λ z. eqb y (second_id z)) o ≡ false
        go None q = refl
        go (Some z) q = ne_eqb y (second_id z) (λ u. no-some z (sym e ∙ (ap (by_second ps next) u ∙ first-second m ps next c.choice x z q)))

    -- predecessors of a lane that was there
    came-book : (x y : ℕ) (l : Lane) → lane m y ≡ Some l → has x (came_from (halves next ps) l.predecessors) ≡ book_split (halves next ps) (comes_from m) x y
    came-book x y l e =
        has-came m ps next c.choice x l.predecessors
        ∙ (or_swap (has x l.predecessors && not (is_cut m ps next c.choice x)) (on_found (λ z. has (first_id z) l.predecessors) (by_second ps next x))
        ∙ (ap (λ t. on_found (λ z. has (first_id z) l.predecessors) (by_second ps next x) || (t && not (is_cut m ps next c.choice x))) (sym (comes-was x y (Some l) e))
        ∙ (ap (λ t. t || (comes_from m x y && not (is_cut m ps next c.choice x))) (on-second (by_second ps next x))
        ∙ (ap (λ t. t || (comes_from m x y && not (is_cut m ps next c.choice x))) (sym (or-false (on_found (λ z. comes_from m (first_id z) y) (by_second ps next x))))
        ∙ (ap (λ t. on_found (λ z. comes_from m (first_id z) y) (by_second ps next x) || t || (comes_from m x y && not (is_cut m ps next c.choice x)))
        (sym (no-pair x y (old-no-second m ps next c y l e)))
        ∙ sym (book-is m ps next c.choice (comes_from m) x y))))))
      where
        on-second : (o : Option Numbered) → on_found (λ z. has (first_id z) l.predecessors) o ≡ on_found (λ z. comes_from m (first_id z) y) o
        on-second None = refl
        on-second (Some z) = sym (comes-was (first_id z) y (Some l) e)

    -- of a lane that was not there
    new-book : (x y : ℕ) → lane m y ≡ None → book_split (halves next ps) (comes_from m) x y ≡ on_found (λ z. eqb y (second_id z)) (found_by_first ps next x)
    new-book x y e =
        book-is m ps next c.choice (comes_from m) x y
        ∙ (ap (λ t. t || on_found (λ z. eqb y (second_id z)) (found_by_first ps next x) || (comes_from m x y && not (is_cut m ps next c.choice x))) (nowhere (by_second ps next x))
        ∙ (ap (λ t. on_found (λ z. eqb y (second_id z)) (found_by_first ps next x) || (t && not (is_cut m ps next c.choice x))) (comes-was x y None e)
        ∙ or-false (on_found (λ z. eqb y (second_id z)) (found_by_first ps next x))))
      where
        nowhere : (o : Option Numbered) → on_found (λ z. comes_from m (first_id z) y) o ≡ false
        nowhere None = refl
        nowhere (Some z) = comes-was (first_id z) y None e

    one-pair : (x y : ℕ) (w : Numbered) → by_second ps next y ≡ Some w → eqb x (first_id w) ≡ on_found (λ z. eqb y (second_id z)) (found_by_first ps next x)
    one-pair x y w e = same_test (eqb x (first_id w)) (on_found (λ z. eqb y (second_id z)) (found_by_first ps next x)) forth (back (found_by_first ps next x) refl)
      where
        forth : eqb x (first_id w) ≡ true → on_found (λ z. eqb y (second_id z)) (found_by_first ps next x) ≡ true
        forth t =
            ap (on_found (λ z. eqb y (second_id z))) (ap (found_by_first ps next) (eqb-true x (first_id w) t) ∙ second-first m ps next c.choice y w e)
            ∙ eq-eqb y (second_id w) (sym (second-id m ps next c.choice y w e))

        back : (o : Option Numbered) → found_by_first ps next x ≡ o → on_found (λ z. eqb y (second_id z)) o ≡ true → eqb x (first_id w) ≡ true
        back None q t = absurd (true≢false (sym t))
        back (Some z) q t =
            let u : Some w ≡ Some z = sym e ∙ (ap (by_second ps next) (eqb-true y (second_id z) t) ∙ first-second m ps next c.choice x z q) in
            eq-eqb x (first_id w) (sym (ap first_id (some_is u) ∙ first-id m ps next c.choice x z q))

    pub split-comes : (x y : ℕ) → comes_from n x y ≡ book_split (halves next ps) (comes_from m) x y
    split-comes x y =
        comes-found n x y after-up ∙ (ap (on_found (λ l. has x l.predecessors)) (after-lane y) ∙ go (lane m y) (found_by_first ps next y) (by_second ps next y) refl refl refl)
      where
        go : (o : Option Lane) (a b : Option Numbered) → lane m y ≡ o → found_by_first ps next y ≡ a → by_second ps next y ≡ b
            → on_found (λ l. has x l.predecessors) (lane_at m ps next c.choice xs y o a b) ≡ book_split (halves next ps) (comes_from m) x y
        go (Some l) None b eo ea eb = came-book x y l eo
        go (Some l) (Some z) b eo ea eb = came-book x y z.1.of (first_lane m ps next c.choice y z ea)
        go None (Some z) b eo ea eb = absurd (no-some z.1.of (sym eo ∙ first_lane m ps next c.choice y z ea))
        go None None None eo ea eb = sym (new-book x y eo ∙ no-pair x y eb)
        go None None (Some w) eo ea eb = has_one x (first_id w) ∙ (one-pair x y w eb ∙ sym (new-book x y eo))

    -- Links stay reciprocal.
    pub split-links : links_reciprocal m ≡ true → links_reciprocal n ≡ true
    split-links h =
        agree-links n (λ x y. split-leads m ps next c.choice xs n same x y ∙ (same-entry x y ∙ sym (split-comes x y)))
      where
        same-entry : (x y : ℕ) → book_split (halves next ps) (leads_to m) x y ≡ book_split (halves next ps) (comes_from m) x y
        same-entry x y =
            book-is m ps next c.choice (leads_to m) x y
            ∙ (ap (λ t. t || on_found (λ z. eqb y (second_id z)) (found_by_first ps next x) || (leads_to m x y && not (is_cut m ps next c.choice x))) (on-second (by_second ps next x))
            ∙ (ap (λ t. on_found (λ z. comes_from m (first_id z) y) (by_second ps next x) || on_found (λ z. eqb y (second_id z)) (found_by_first ps next x)
            || (t && not (is_cut m ps next c.choice x))) (links-agree m h x y)
            ∙ sym (book-is m ps next c.choice (comes_from m) x y)))
          where
            on-second : (o : Option Numbered) → on_found (λ z. leads_to m (first_id z) y) o ≡ on_found (λ z. comes_from m (first_id z) y) o
            on-second None = refl
            on-second (Some z) = links-agree m h (first_id z) y
