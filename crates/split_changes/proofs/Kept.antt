-- What a split lists as modified among boundaries is the definition's: those that are cut and keep their ids. Assumes nothing.
use mathlib.Core.Path.{◌≡◌, refl, ap, ◌∙◌, sym}
use Prim.Native.Nat.{ℕ, suc, ◌+◌, ◌*◌}
use native.Mathlib.Omega.{arith}
use mathlib.Core.Bool.{Bool, true, false, ◌&&◌, ◌||◌}
use mathlib.Core.List.{List, [], ◌∷◌, ◌++◌, map}
use lib.Dec.{eqb, ltb}
use lib.Ieee.{Float}
use lib.ListN.{length}
use borrow.Author.Tests.{ltb-true, eq-eqb, ne_eqb}
use Rattle.lists.specs.Every.{all}
use Rattle.lists.specs.Select.{any, keep, ascending}
use Rattle.lists.proofs.Booleans.{and-fst, and-snd, and-false}
use Rattle.lists.proofs.Select.{all_map, above-all, ascending-tail}
use Rattle.rules.specs.Names.{BoundaryKind}
use Rattle.rules.specs.Edit.{refs, boundaries_where}
use Rattle.rules.specs.Split.{Piece}
use Rattle.tables.specs.View.{word, rows, boundary_of}
use Rattle.mentions.proofs.Filters.{ids_where_lem}
use Rattle.split_plan.specs.Placing.{picked}
use Rattle.split_plan.proofs.Marked.{picked_none}
use Rattle.split_laws.proofs.Chosen.{all-picked}
use Rattle.split_laid.proofs.Boundaries.{AllWords}
use Rattle.split_marks.specs.Touched.{alone_from}
use Rattle.split_lists.specs.Changes.{marked_ids}

-- a piece keeps the id
abbrev keeps : List Piece → ℕ → Bool
keeps xs i = any (λ x. x.alone && eqb x.of.id i) xs

-- where all pieces have later ids, none does
keeps-none : (i : ℕ) (xs : List Piece) → all (ltb i) (map (λ x. x.of.id) xs) ≡ true → keeps xs i ≡ false
unfolding any all
keeps-none i [] h = refl
keeps-none i (x ∷ xs) h =
    let k = x.of.id in
    let l = ltb-true i k (and-fst (ltb i k) (all (ltb i) (map (λ x. x.of.id) xs)) h) in
    rw (ne_eqb k i (λ e. omega arith), and-false x.alone, keeps-none i xs (and-snd (ltb i k) (all (ltb i) (map (λ x. x.of.id) xs)) h))

-- the first piece decides of its own id
keeps-own : (x : Piece) (xs : List Piece) (i : ℕ) → x.of.id ≡ i → keeps xs i ≡ false → keeps (x ∷ xs) i ≡ x.alone
unfolding any
keeps-own x xs i e h = rw (eq-eqb x.of.id i e, h) (same x.alone)
  where
    same : (a : Bool) → ((a && true) || false) ≡ a
    same true = refl
    same false = refl

-- a piece of an earlier boundary has no part in what is kept
keep-later : (x : Piece) (xs : List Piece) (ws : List (List ℕ)) → all (λ w. ltb x.of.id (word 0 w)) ws ≡ true
    → keep (λ w. keeps (x ∷ xs) (word 0 w)) ws ≡ keep (λ w. keeps xs (word 0 w)) ws
unfolding any all keep
keep-later x xs [] h = refl
keep-later x xs (w ∷ ws) h =
    let k = x.of.id in
    let l = ltb-true k (word 0 w) (and-fst (ltb k (word 0 w)) (all (λ w. ltb k (word 0 w)) ws) h) in
    rw (ne_eqb k (word 0 w) (λ e. omega arith), and-false x.alone, keep-later x xs ws (and-snd (ltb k (word 0 w)) (all (λ w. ltb k (word 0 w)) ws) h))

module _ (pieces : List ℕ) where
  -- rows of pieces, from row j on, say which keep their ids
  unfoldable pub Kept : ℕ → List Piece → Type 0
  Kept j [] = ◌≡◌ {A = ℕ} 0 0
  Kept j (x ∷ xs) = (eqb (word (j * 3 + 1) pieces) (word (j * 3) pieces) ≡ x.alone) × Kept (suc j) xs

  -- the rows of pieces that the layout's laws speak of do
  pub words-kept : (lines : List ℕ) (j at : ℕ) (xs : List Piece) → AllWords pieces lines j at xs → Kept j xs
  unfolding AllWords Kept
  words-kept lines j at [] h = refl
  words-kept lines j at (x ∷ xs) h =
      (ap (λ k. eqb k (word (j * 3) pieces)) h.0.first ∙ (ap (eqb x.first) h.0.id ∙ h.0.alone), words-kept lines (suc j) _ xs h.1)

  above_rows : (w : List ℕ) (ws : List (List ℕ)) → ascending (map (word 0) (w ∷ ws)) ≡ true → all (λ v. ltb (word 0 w) (word 0 v)) ws ≡ true
  unfolding ascending
  above_rows w ws up = sym (all_map (ltb (word 0 w)) (word 0) ws) ∙ above-all (word 0 w) (map (word 0) ws) up

  tail-up : (w : List ℕ) (ws : List (List ℕ)) → ascending (map (word 0) (w ∷ ws)) ≡ true → ascending (map (word 0) ws) ≡ true
  unfolding ascending
  tail-up w ws up = ascending-tail (word 0 w) (map (word 0) ws) up

  later : (w : List ℕ) (ws : List (List ℕ)) (bs : List Bool) (xs : List Piece) → ascending (map (word 0) (w ∷ ws)) ≡ true → map (word 0) (picked bs ws) ≡ map (λ x. x.of.id) xs
      → all (ltb (word 0 w)) (map (λ x. x.of.id) xs) ≡ true
  later w ws bs xs up e =
      ap (all (ltb (word 0 w))) (sym e) ∙ (all_map (ltb (word 0 w)) (word 0) (picked bs ws) ∙ all-picked (λ v. ltb (word 0 w) (word 0 v)) bs ws (above_rows w ws up))

  kept-rows : (j : ℕ) (bs : List Bool) (ws : List (List ℕ)) (xs : List Piece) (rest : List Bool) → length bs ≡ length ws → ascending (map (word 0) ws) ≡ true
      → map (word 0) (picked bs ws) ≡ map (λ x. x.of.id) xs → Kept j xs → picked (alone_from pieces j bs ++ rest) ws ≡ keep (λ w. keeps xs (word 0 w)) ws
  unfolding alone_from picked keep Kept
  kept-rows j [] [] xs rest n up e k = picked_none rest
  kept-rows j [] (w ∷ ws) xs rest n up e k = absurd (omega arith)
  kept-rows j (b ∷ bs) [] xs rest n up e k = absurd (omega arith)
  kept-rows j (false ∷ bs) (w ∷ ws) xs rest n up e k =
      let m : length bs ≡ length ws = omega arith in
      rw (keeps-none (word 0 w) xs (later w ws bs xs up e), kept-rows j bs ws xs rest m (tail-up w ws up) e k)
  kept-rows j (true ∷ bs) (w ∷ ws) [] rest n up e k = let z : ◌≡◌ {A = ℕ} 0 1 = cc in absurd (omega arith)
  kept-rows j (true ∷ bs) (w ∷ ws) (x ∷ xs) rest n up e k =
      let m : length bs ≡ length ws = omega arith in
      let i : word 0 w ≡ x.of.id = cc in
      let es : map (word 0) (picked bs ws) ≡ map (λ x. x.of.id) xs = cc in
      let own : keeps (x ∷ xs) (word 0 w) ≡ x.alone = keeps-own x xs (word 0 w) (sym i) (keeps-none (word 0 w) xs (later w ws bs xs up es)) in
      let tl : keep (λ v. keeps (x ∷ xs) (word 0 v)) ws ≡ keep (λ v. keeps xs (word 0 v)) ws = keep-later x xs ws (rw i at (above_rows w ws up)) in
      rw (own, tl, k.0, kept-rows (suc j) bs ws xs rest m (tail-up w ws up) es k.1)

  pub boundaries-touched : (c : List Float) (t : List ℕ) (bs rest : List Bool) (xs : List Piece) → length bs ≡ length (rows 5 (λ w. w) t) → ascending (map (word 0) (rows 5 (λ w. w) t)) ≡ true
      → map (word 0) (picked bs (rows 5 (λ w. w) t)) ≡ map (λ x. x.of.id) xs → Kept 0 xs
      → refs BoundaryKind (marked_ids 5 (alone_from pieces 0 bs ++ rest) t) ≡ boundaries_where (λ b. any (λ x. x.alone && eqb x.of.id b.id) xs) (rows 5 (boundary_of c) t)
  unfolding boundary_of
  boundaries-touched c t bs rest xs n up e k =
      ap (refs BoundaryKind)
      (ap (map (word 0)) (kept-rows 0 bs (rows 5 (λ w. w) t) xs rest n up e k)
      ∙ sym (ids_where_lem 5 (boundary_of c) (λ b. b.id) (λ b. keeps xs b.id) (λ w. keeps xs (word 0 w)) t (λ w. refl) (λ w. refl)))
