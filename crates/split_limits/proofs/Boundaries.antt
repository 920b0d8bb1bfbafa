-- The points of the boundaries after a split are as many as the numbers say, and their lines as short. Assumes nothing.
use Rattle.std.specs.Prelude.{Option, None, Some}
use mathlib.Core.Path.{◌≡◌, refl, sym, ap, ◌∙◌}
use Prim.Native.Nat.{ℕ, suc, ◌+◌, ◌*◌, ◌≤◌, ◌<◌}
use native.Mathlib.Omega.{arith}
use mathlib.Core.Bool.{Bool, true, false, ◌&&◌, cond, and_assoc}
use mathlib.Core.List.{List, [], ◌∷◌, ◌++◌, map, map-append}
use lib.Dec.{eqb, leb, ltb}
use lib.Ieee.{Float}
use lib.ListN.{length, drop}
use borrow.Author.Tests.{ltb-true, leb-true, le-leb, eq-eqb, ne_eqb}
use Rattle.lists.specs.Every.{all}
use Rattle.lists.specs.Select.{each, find, ascending}
use Rattle.lists.proofs.Booleans.{and-false, and-fst, and-snd}
use Rattle.lists.specs.Rows.{keys}
use Rattle.lists.proofs.Rows.{length-reads, mapped-reads}
use Rattle.lists.proofs.Select.{all_map, all_of, all-weaken, above-all, ascending-tail, map-twice}
use Rattle.lists.proofs.Every.{all_head, all_tail}
use Rattle.entities.specs.Records.{Boundary, Map}
use Rattle.rules.specs.Sound.{total}
use Rattle.rules.specs.Merge.{redrawn}
use Rattle.rules.specs.Split.{LanePlan, Piece, piece_for, cut_boundary, new_piece, new_pieces, cut_map}
use Rattle.tables.specs.View.{word, rows, boundary_of}
use Rattle.tables.specs.Formed.{span_at, stored}
use Rattle.store.specs.Laid.{points_of}
use Rattle.row_tests.proofs.Relations.{all-reads}
use Rattle.layout.proofs.Standing.{line-long}
use Rattle.split_plan.specs.Placing.{picked}
use Rattle.split_laws.proofs.Chosen.{all-picked}
use Rattle.split_room.specs.Fitting.{boundary_points, pieces_fit}

pub total-both : (a b : List ℕ) → total (a ++ b) ≡ total a + total b
unfolding total
total-both [] b = omega arith
total-both (n ∷ a) b = omega (arith, total-both a b)

-- row j of the pieces and of their lines' measures tells of a piece
pub record PieceTold (pieces lines : List ℕ) (j : ℕ) (x : Piece) : Type 0 where
  pub kept : eqb (word (j * 3 + 1) pieces) (word (j * 3) pieces) ≡ x.alone
  pub first-size : word (j * 3 + 1) lines ≡ length x.first_line
  pub second-size : word (j * 3 + 2) lines ≡ length x.second_line

module _ (c : List Float) (pieces lines : List ℕ) (f : Boundary → Boundary) where
  -- marked rows in turn are those of the pieces from row j on, and f draws each of them anew where it keeps its id; the others stay
  unfoldable pub Aligned : ℕ → List Bool → List (List ℕ) → List Piece → Type 0
  Aligned j [] [] xs = xs ≡ []
  Aligned j [] (w ∷ ws) xs = ◌≡◌ {A = ℕ} 0 1
  Aligned j (b ∷ bs) [] xs = xs ≡ []
  Aligned j (false ∷ bs) (w ∷ ws) xs = (f (boundary_of c w) ≡ boundary_of c w) × Aligned j bs ws xs
  Aligned j (true ∷ bs) (w ∷ ws) [] = ◌≡◌ {A = ℕ} 0 1
  Aligned j (true ∷ bs) (w ∷ ws) (x ∷ xs) =
      (f (boundary_of c w) ≡ cond x.alone (redrawn x.first_line (boundary_of c w)) (boundary_of c w)) × (PieceTold pieces lines j x × Aligned (suc j) bs ws xs)

  abbrev row_points : List (List ℕ) → ℕ
  row_points ws = total (map (λ w. length (f (boundary_of c w)).geometry) ws)

  abbrev new_points : List Piece → ℕ
  new_points xs = total (map (λ b. length b.geometry) (each new_pieces xs))

  row-size : (w : List ℕ) → stored c (span_at 2 w) ≡ true → length (boundary_of c w).geometry ≡ word 3 w
  unfolding boundary_of
  row-size w h = line-long c (span_at 2 w) h

  new-first : (x : Piece) (xs : List Piece) → new_points (x ∷ xs) ≡ cond x.alone 0 (length x.first_line) + length x.second_line + new_points xs
  unfolding each total
  new-first x xs =
      ap total (map-append (λ (b : Boundary). length b.geometry) (new_pieces x) (each new_pieces xs))
      ∙ (total-both (map (λ (b : Boundary). length b.geometry) (new_pieces x)) (map (λ (b : Boundary). length b.geometry) (each new_pieces xs)) ∙ ap (λ n. n + new_points xs) (go x.alone))
    where
      go : (b : Bool) → total (map (λ (b : Boundary). length b.geometry) (cond b [] (new_piece x.of x.first x.first_line ∷ []) ++ (new_piece x.of x.second x.second_line ∷ [])))
          ≡ cond b 0 (length x.first_line) + length x.second_line
      go true = omega arith
      go false = omega arith

  pub boundary-points : (j : ℕ) (bs : List Bool) (ws : List (List ℕ)) (xs : List Piece) → Aligned j bs ws xs → all (λ w. stored c (span_at 2 w)) ws ≡ true
      → row_points ws + new_points xs ≡ boundary_points pieces lines j bs ws
  unfolding Aligned boundary_points total
  boundary-points j [] [] xs h s = rw h (unfold each in refl)
  boundary-points j [] (w ∷ ws) xs h s = absurd (omega (arith, h))
  boundary-points j (b ∷ bs) [] xs h s = rw h (unfold each in refl)
  boundary-points j (false ∷ bs) (w ∷ ws) xs h s =
      let r = boundary-points j bs ws xs h.1 (all_tail (λ w. stored c (span_at 2 w)) w ws s) in
      let e : length (f (boundary_of c w)).geometry ≡ word 3 w = ap (λ (b : Boundary). length b.geometry) h.0 ∙ row-size w (all_head (λ w. stored c (span_at 2 w)) w ws s) in
      omega (arith, r, e)
  boundary-points j (true ∷ bs) (w ∷ ws) [] h s = absurd (omega (arith, h))
  boundary-points j (true ∷ bs) (w ∷ ws) (x ∷ xs) h s =
      let r = boundary-points (suc j) bs ws xs h.1.1 (all_tail (λ w. stored c (span_at 2 w)) w ws s) in
      let q = h.1.0 in
      let e = row-size w (all_head (λ w. stored c (span_at 2 w)) w ws s) in
      rw (new-first x xs, q.kept, q.first-size, q.second-size, h.0) (go x.alone e r)
    where
      go : (b : Bool) → length (boundary_of c w).geometry ≡ word 3 w → row_points ws + new_points xs ≡ boundary_points pieces lines (suc j) bs ws
          → length (cond b (redrawn x.first_line (boundary_of c w)) (boundary_of c w)).geometry + row_points ws + (cond b 0 (length x.first_line) + length x.second_line + new_points xs)
          ≡ cond b 0 (word 3 w) + (length x.first_line + length x.second_line) + boundary_points pieces lines (suc j) bs ws
      go true e r = omega (arith, r)
      go false e r = omega (arith, r, e)

  -- ---- short lines

  abbrev short : Boundary → Bool
  short b = leb (length b.geometry) 256

  shuffled : (a r b n p : Bool) → (r && n) ≡ p → ((a && r) && (b && n)) ≡ (a && (b && p))
  shuffled false r b n p e = refl
  shuffled true r false n p e = and-false r
  shuffled true r true n p e = e

  pub boundary_lines : (j : ℕ) (bs : List Bool) (ws : List (List ℕ)) (xs : List Piece) → Aligned j bs ws xs → all (λ w. short (boundary_of c w)) ws ≡ true
      → (all (λ w. short (f (boundary_of c w))) ws && all short (each new_pieces xs)) ≡ pieces_fit lines j (length xs)
  unfolding Aligned pieces_fit all each
  boundary_lines j [] [] xs h s = rw h
  boundary_lines j [] (w ∷ ws) xs h s = absurd (omega (arith, h))
  boundary_lines j (b ∷ bs) [] xs h s = rw h
  boundary_lines j (false ∷ bs) (w ∷ ws) xs h s =
      let o = and-fst (short (boundary_of c w)) (all (λ w. short (boundary_of c w)) ws) s in
      let t = and-snd (short (boundary_of c w)) (all (λ w. short (boundary_of c w)) ws) s in
      rw (h.0, o) (boundary_lines j bs ws xs h.1 t)
  boundary_lines j (true ∷ bs) (w ∷ ws) [] h s = absurd (omega (arith, h))
  boundary_lines j (true ∷ bs) (w ∷ ws) (x ∷ xs) h s =
      let o = and-fst (short (boundary_of c w)) (all (λ w. short (boundary_of c w)) ws) s in
      let t = and-snd (short (boundary_of c w)) (all (λ w. short (boundary_of c w)) ws) s in
      let q = h.1.0 in
      rw (h.0, q.first-size, q.second-size) (go x.alone o (boundary_lines (suc j) bs ws xs h.1.1 t))
    where
      R : Bool
      R = all (λ w. short (f (boundary_of c w))) ws

      N : Bool
      N = all short (each new_pieces xs)

      go : (b : Bool) → short (boundary_of c w) ≡ true → (R && N) ≡ pieces_fit lines (suc j) (length xs)
          → ((short (cond b (redrawn x.first_line (boundary_of c w)) (boundary_of c w)) && R) && all short ((cond b [] (new_piece x.of x.first x.first_line ∷ []) ++ (new_piece x.of x.second x.second_line ∷ [])) ++ each new_pieces xs))
          ≡ (leb (length x.first_line) 256 && (leb (length x.second_line) 256 && pieces_fit lines (suc j) (length xs)))
      go true o e = shuffled (leb (length x.first_line) 256) R (leb (length x.second_line) 256) N (pieces_fit lines (suc j) (length xs)) e
      go false o e = rw o (swapped R (leb (length x.first_line) 256) (leb (length x.second_line) 256) N (pieces_fit lines (suc j) (length xs)) e)
        where
          swapped : (r a b n p : Bool) → (r && n) ≡ p → (r && (a && (b && n))) ≡ (a && (b && p))
          swapped r false b n p e = and-false r
          swapped r true false n p e = and-false r
          swapped r true true n p e = e

-- ---- the cut of a map draws them so

pub all_both : {A : Type 0} (p : A → Bool) (xs ys : List A) → all p (xs ++ ys) ≡ (all p xs && all p ys)
unfolding all
all_both p [] ys = refl
all_both p (x ∷ xs) ys = ap (λ b. p x && b) (all_both p xs ys) ∙ sym (and_assoc (p x) (all p xs) (all p ys))

-- those from row j on
unfoldable pub AllTold : List ℕ → List ℕ → ℕ → List Piece → Type 0
AllTold pieces lines j [] = ◌≡◌ {A = ℕ} 0 0
AllTold pieces lines j (x ∷ xs) = PieceTold pieces lines j x × AllTold pieces lines (suc j) xs

none-for : (i : ℕ) (xs : List Piece) → all (λ x. ltb i x.of.id) xs ≡ true → piece_for xs i ≡ None
unfolding find all
none-for i [] h = refl
none-for i (x ∷ xs) h =
    let l = ltb-true i x.of.id (and-fst (ltb i x.of.id) (all (λ x. ltb i x.of.id) xs) h) in
    rw (ne_eqb x.of.id i (λ e. omega arith), none-for i xs (and-snd (ltb i x.of.id) (all (λ x. ltb i x.of.id) xs) h))

module _ (c : List Float) (pieces lines : List ℕ) (ys : List Piece) where
  no_pieces : (xs : List Piece) → [] ≡ map (λ x. x.of) xs → xs ≡ []
  no_pieces [] e = refl
  no_pieces (x ∷ xs) e = let z : ◌≡◌ {A = ℕ} 0 1 = cc in absurd (omega arith)

  drawn-by : (b : Boundary) (o : Option Piece) → piece_for ys b.id ≡ o → cut_boundary ys b ≡ elim o [ None ↦ b | Some x ↦ cond x.alone (redrawn x.first_line b) b ]
  drawn-by b o e = ap (λ (q : Option Piece). elim q [ None ↦ b | Some x ↦ cond x.alone (redrawn x.first_line b) b ]) e

  id-is : (w : List ℕ) → (boundary_of c w).id ≡ word 0 w
  unfolding boundary_of
  id-is w = refl

  later : (i : ℕ) (bs : List Bool) (ws : List (List ℕ)) (xs : List Piece) → all (λ w. ltb i (word 0 w)) ws ≡ true → map (boundary_of c) (picked bs ws) ≡ map (λ x. x.of) xs → all (λ x. ltb i x.of.id) xs ≡ true
  unfolding boundary_of
  later i bs ws xs a whose =
      sym (all_map (λ (b : Boundary). ltb i b.id) (λ (x : Piece). x.of) xs)
      ∙ (ap (all (λ (b : Boundary). ltb i b.id)) (sym whose) ∙ (all_map (λ (b : Boundary). ltb i b.id) (boundary_of c) (picked bs ws) ∙ all-picked (λ w. ltb i (word 0 w)) bs ws a))

  here : (x : Piece) (xs : List Piece) (i : ℕ) → x.of.id ≡ i → piece_for (x ∷ xs) i ≡ Some x
  unfolding find
  here x xs i e = rw (eq-eqb x.of.id i e)

  skipped : (x : Piece) (xs : List Piece) (k : ℕ) → x.of.id < k → piece_for (x ∷ xs) k ≡ piece_for xs k
  unfolding find
  skipped x xs k l = rw (ne_eqb x.of.id k (λ e. omega arith))

  ids-above : (w : List ℕ) (ws : List (List ℕ)) → ascending (map (word 0) (w ∷ ws)) ≡ true → all (λ v. ltb (word 0 w) (word 0 v)) ws ≡ true
  unfolding ascending
  ids-above w ws up = sym (all_map (ltb (word 0 w)) (word 0) ws) ∙ above-all (word 0 w) (map (word 0) ws) up

  ids_up : (w : List ℕ) (ws : List (List ℕ)) → ascending (map (word 0) (w ∷ ws)) ≡ true → ascending (map (word 0) ws) ≡ true
  unfolding ascending
  ids_up w ws up = ascending-tail (word 0 w) (map (word 0) ws) up

  aligned : (lo j : ℕ) (bs : List Bool) (ws : List (List ℕ)) (xs : List Piece) → ((k : ℕ) → lo ≤ k → piece_for ys k ≡ piece_for xs k)
      → all (λ w. leb lo (word 0 w)) ws ≡ true → ascending (map (word 0) ws) ≡ true → length ws ≤ length bs → map (boundary_of c) (picked bs ws) ≡ map (λ x. x.of) xs → AllTold pieces lines j xs
      → Aligned c pieces lines (cut_boundary ys) j bs ws xs
  unfolding Aligned AllTold picked
  aligned lo j [] [] xs look near up l whose told = no_pieces xs whose
  aligned lo j [] (w ∷ ws) xs look near up l whose told = absurd (omega arith)
  aligned lo j (b ∷ bs) [] xs look near up l whose told = no_pieces xs whose
  aligned lo j (false ∷ bs) (w ∷ ws) xs look near up l whose told =
      let i = word 0 w in
      let n : piece_for ys i ≡ None = look i (leb-true lo i (all_head (λ w. leb lo (word 0 w)) w ws near)) ∙ none-for i xs (later i bs ws xs (ids-above w ws up) whose) in
      (drawn-by (boundary_of c w) None (ap (piece_for ys) (id-is w) ∙ n), aligned lo j bs ws xs look (all_tail (λ w. leb lo (word 0 w)) w ws near) (ids_up w ws up) (omega arith) whose told)
  aligned lo j (true ∷ bs) (w ∷ ws) [] look near up l whose told = let z : ◌≡◌ {A = ℕ} 0 1 = cc in absurd (omega arith)
  aligned lo j (true ∷ bs) (w ∷ ws) (x ∷ xs) look near up l whose told =
      let i = word 0 w in
      let o : boundary_of c w ≡ x.of = cc in
      let r : map (boundary_of c) (picked bs ws) ≡ map (λ x. x.of) xs = cc in
      let e : x.of.id ≡ i = ap (λ (b : Boundary). b.id) (sym o) ∙ id-is w in
      let h = leb-true lo i (all_head (λ w. leb lo (word 0 w)) w ws near) in
      let p : piece_for ys i ≡ Some x = look i h ∙ here x xs i e in (
        drawn-by (boundary_of c w) (Some x) (ap (piece_for ys) (id-is w) ∙ p),
        (
          told.0,
          aligned (suc i) (suc j) bs ws xs (λ k g. look k (omega arith) ∙ skipped x xs k (omega arith))
              (all-weaken (λ v. ltb i (word 0 v)) (λ v. leb (suc i) (word 0 v)) ws (λ v t. let q = ltb-true i (word 0 v) t in le-leb (suc i) (word 0 v) (omega arith)) (ids-above w ws up)) (ids_up w ws up) (omega arith) r told.1,
        ),
      )

-- ---- the boundaries of a map after the cut

module _ (c : List Float) (pieces lines : List ℕ) (m : Map) (ps : List LanePlan) (xs : List Piece) (hs : List (ℕ × ℕ)) (next : ℕ) (t : List ℕ) (marks : List Bool)
    (own : m.boundaries ≡ rows 5 (boundary_of c) t) (up : ascending (keys 5 (word 0 t) (drop 1 t)) ≡ true) (there : word 0 t ≤ length marks)
    (whose : map (boundary_of c) (picked marks (rows 5 (λ w. w) t)) ≡ map (λ x. x.of) xs) (told : AllTold pieces lines 0 xs) where
  abbrev ws : List (List ℕ)
  ws = rows 5 (λ w. w) t

  abbrev after : List Boundary
  after = (cut_map m ps xs hs next).boundaries

  read : m.boundaries ≡ map (boundary_of c) ws
  unfolding rows
  read = own ∙ sym (mapped-reads 5 (λ (w : List ℕ). w) (boundary_of c) (word 0 t) (drop 1 t))

  rows-aligned : Aligned c pieces lines (cut_boundary xs) 0 marks ws xs
  unfolding rows keys
  rows-aligned =
      aligned c pieces lines xs 0 0 marks ws xs (λ k l. refl) (all_any (λ w. leb 0 (word 0 w)) ws (λ w. le-leb 0 (word 0 w) (omega arith)))
      (ap ascending (mapped-reads 5 (λ (w : List ℕ). w) (word 0) (word 0 t) (drop 1 t)) ∙ up) (rw (length-reads 5 (λ (w : List ℕ). w) (word 0 t) (drop 1 t)) there) whose told
    where
      all_any : (p : List ℕ → Bool) (vs : List (List ℕ)) → ((w : List ℕ) → p w ≡ true) → all p vs ≡ true
      all_any p vs h = all_of p vs (λ w q. h w)

  pub points-cut : all (λ b. b) (rows 5 (λ w. stored c (span_at 2 w)) t) ≡ true → points_of (map (λ b. b.geometry) (cut_map m ps xs hs next).boundaries) ≡ boundary_points pieces lines 0 marks (rows 5 (λ w. w) t)
  unfolding cut_map rows
  points-cut fine =
      let g : Boundary → ℕ = λ b. length b.geometry in
      let s = all-reads 5 (λ (w : List ℕ). w) (λ w. stored c (span_at 2 w)) (word 0 t) (drop 1 t) ∙ fine in
      ap total (map-twice (λ (b : Boundary). b.geometry) length after ∙ map-append g (map (cut_boundary xs) m.boundaries) (each new_pieces xs))
      ∙ (total-both (map g (map (cut_boundary xs) m.boundaries)) (map g (each new_pieces xs))
      ∙ (ap (λ bs. total (map g (map (cut_boundary xs) bs)) + total (map g (each new_pieces xs))) read
      ∙ (ap (λ ns. total ns + total (map g (each new_pieces xs))) (ap (map g) (map-twice (boundary_of c) (cut_boundary xs) ws) ∙ map-twice (λ w. cut_boundary xs (boundary_of c w)) g ws)
      ∙ boundary-points c pieces lines (cut_boundary xs) 0 marks ws xs rows-aligned s)))

  pub lines_cut : all (λ b. leb (length b.geometry) 256) m.boundaries ≡ true → all (λ b. leb (length b.geometry) 256) (cut_map m ps xs hs next).boundaries ≡ pieces_fit lines 0 (length xs)
  unfolding cut_map
  lines_cut h =
      let g : Boundary → Bool = λ b. leb (length b.geometry) 256 in
      all_both g (map (cut_boundary xs) m.boundaries) (each new_pieces xs)
      ∙ (ap (λ bs. all g (map (cut_boundary xs) bs) && all g (each new_pieces xs)) read
      ∙ (ap (λ z. z && all g (each new_pieces xs)) (all_map g (cut_boundary xs) (map (boundary_of c) ws) ∙ all_map (λ b. g (cut_boundary xs b)) (boundary_of c) ws)
      ∙ boundary_lines c pieces lines (cut_boundary xs) 0 marks ws xs rows-aligned (sym (all_map g (boundary_of c) ws) ∙ (ap (all g) (sym read) ∙ h))))
