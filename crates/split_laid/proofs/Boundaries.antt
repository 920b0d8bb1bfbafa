-- The table of boundaries that a split leaves is the cut map's boundaries written over it, each with where its line starts. Assumes nothing.
use Rattle.std.specs.Prelude.{Option, None, Some}
use mathlib.Core.Path.{◌≡◌, refl, sym, ap, ◌∙◌}
use Prim.Native.Nat.{ℕ, suc, ◌+◌, ◌*◌, ◌≤◌}
use native.Mathlib.Omega.{arith}
use mathlib.Core.Bool.{Bool, true, false, not, cond}
use mathlib.Core.List.{List, [], ◌∷◌, ◌++◌, map, map-append}
use lib.Dec.{eqb}
use lib.Ieee.{Float}
use lib.ListN.{length, take, drop, length-map, length-drop}
use borrow.Author.Tests.{eqb-true}
use Rattle.lists.specs.Every.{all}
use Rattle.lists.specs.Rows.{over, keys, row_with, later}
use Rattle.lists.specs.Select.{find, has, each}
use Rattle.lists.proofs.Rows.{get_d_over-before, get_d_over-behind, length_over}
use Rattle.lists.proofs.Select.{all_map, map-twice}
use Rattle.entities.specs.Records.{Boundary}
use Rattle.rules.specs.Merge.{redrawn}
use Rattle.rules.specs.Split.{Piece, piece_for, cut_boundary, new_piece, new_pieces}
use Rattle.tables.specs.View.{word, rows, boundary_of}
use Rattle.tables.specs.Formed.{span_at, stored}
use Rattle.store.specs.Store.{writes, store_rows}
use Rattle.store.specs.Laid.{boundary_laid}
use Rattle.store.specs.Rows.{on_rows, appended_rows}
use Rattle.store.proofs.Rows.{table-agree, rows-read}
use Rattle.store.proofs.Packing.{every-row}
use Rattle.store.proofs.Growing.{store-more}
use Rattle.store.proofs.LaidRows.{boundary-laid-length}
use Rattle.laws.proofs.SplitTests.{drawn-id}
use Rattle.layout.proofs.Standing.{boundary-stands, mapped-rows}
use Rattle.merge_draw.specs.Redrawing.{boundary_row, as_given}
use Rattle.merge_draw.proofs.Drawn.{boundary-redrawn, boundary-new}
use Rattle.split_plan.specs.Placing.{picked}
use Rattle.split_tables.specs.Cut.{pointed_at, pointed_piece, new_rows, boundaries_cut}

picked-map : {A B : Type 0} (f : A → B) (bs : List Bool) (xs : List A) → map f (picked bs xs) ≡ picked bs (map f xs)
unfolding picked
picked-map f [] xs = refl
picked-map f (b ∷ bs) [] = refl
picked-map f (true ∷ bs) (x ∷ xs) = ap (λ z. f x ∷ z) (picked-map f bs xs)
picked-map f (false ∷ bs) (x ∷ xs) = picked-map f bs xs

-- ---- pieces and their words

-- points of both pieces
abbrev pub piece_size : Piece → ℕ
piece_size x = length x.first_line + length x.second_line

-- row j of the pieces and of their lines' measures is that of a piece whose first line starts at `at`
pub record PieceWords (pieces lines : List ℕ) (j at : ℕ) (x : Piece) : Type 0 where
  pub id : word (j * 3) pieces ≡ x.of.id
  pub first : word (j * 3 + 1) pieces ≡ x.first
  pub second : word (j * 3 + 2) pieces ≡ x.second
  pub start : word (j * 3) lines ≡ at
  pub first-size : word (j * 3 + 1) lines ≡ length x.first_line
  pub second-size : word (j * 3 + 2) lines ≡ length x.second_line
  pub alone : eqb x.first x.of.id ≡ x.alone

-- those of pieces from row j on, their lines one behind the other
unfoldable pub AllWords : List ℕ → List ℕ → ℕ → ℕ → List Piece → Type 0
AllWords pieces lines j at [] = ◌≡◌ {A = ℕ} 0 0
AllWords pieces lines j at (x ∷ xs) = PieceWords pieces lines j at x × AllWords pieces lines (suc j) (at + piece_size x) xs

-- kind and attributes, of a row and of the boundary that is cut
abbrev kinds : List ℕ → ℕ × ℕ
kinds w = (word 1 w, word 4 w)

abbrev piece_kinds : Piece → ℕ × ℕ
piece_kinds x = (x.of.kind, x.of.attributes)

-- ---- a boundary's piece

-- the piece of boundary k, and where its first line starts
unfoldable pub piece_start : ℕ → List Piece → ℕ → Option (ℕ × Piece)
piece_start at [] k = None
piece_start at (x ∷ xs) k = let rest = piece_start (at + piece_size x) xs k in cond (eqb x.of.id k) (Some (at, x)) rest

abbrev pub piece_only : Option (ℕ × Piece) → Option Piece
piece_only None = None
piece_only (Some z) = Some z.1

pub start-piece : (at : ℕ) (xs : List Piece) (k : ℕ) → piece_for xs k ≡ piece_only (piece_start at xs k)
unfolding piece_start find
start-piece at [] k = refl
start-piece at (x ∷ xs) k = go (eqb x.of.id k) (start-piece (at + piece_size x) xs k)
  where
    go : (b : Bool) → piece_for xs k ≡ piece_only (piece_start (at + piece_size x) xs k) → cond b (Some x) (piece_for xs k) ≡ piece_only (cond b (Some (at, x)) (piece_start (at + piece_size x) xs k))
    go true e = refl
    go false e = e

module _ (pieces lines : List ℕ) where
  -- what a search among the ids of pieces finds
  abbrev FoundPiece : ℕ → ℕ → List Piece → ℕ → Option ℕ → Type 0
  FoundPiece j at xs k (Some r) = (z : ℕ × Piece) × (piece_start at xs k ≡ Some z) × PieceWords pieces lines (j + r) z.0 z.1 × (z.1.of.id ≡ k)
  FoundPiece j at xs k None = piece_start at xs k ≡ None

  found-piece : (j at : ℕ) (xs : List Piece) → AllWords pieces lines j at xs → (k : ℕ) → FoundPiece j at xs k (row_with k (map (λ x. x.of.id) xs))
  unfolding AllWords piece_start row_with
  found-piece j at [] h k = refl
  found-piece j at (x ∷ xs) h k = go (eqb x.of.id k) refl (row_with k (map (λ x. x.of.id) xs)) (found-piece (suc j) (at + piece_size x) xs h.1 k)
    where
      here : PieceWords pieces lines (j + 0) at x
      here = let e : j + 0 ≡ j = omega arith in rw e h.0

      go : (b : Bool) → eqb x.of.id k ≡ b → (r : Option ℕ) → FoundPiece (suc j) (at + piece_size x) xs k r
          → FoundPiece j at (x ∷ xs) k (cond b (Some 0) (later r))
      go true e r f = ((at, x), rw e, here, eqb-true x.of.id k e)
      go false e (Some r) f = let n : suc j + r ≡ j + suc r = omega arith in (f.0, rw e f.1, rw (← n) f.2, f.3)
      go false e None f = rw e f

  -- ---- rows

  module _ (c : List Float) (at : ℕ) (xs : List Piece) where
    -- a boundary's record and its line's start after the cut
    abbrev pub cut_start : ℕ × Boundary → Option (ℕ × Piece) → ℕ × Boundary
    cut_start r None = r
    cut_start r (Some z) = cond z.1.alone (z.0, redrawn z.1.first_line r.1) r

    abbrev pub boundary_after : ℕ × Boundary → ℕ × Boundary
    boundary_after r = cut_start r (piece_start at xs r.1.id)

    pub after-cut : (r : ℕ × Boundary) → (boundary_after r).1 ≡ cut_boundary xs r.1
    after-cut r = go (piece_start at xs r.1.id) (piece_for xs r.1.id) (start-piece at xs r.1.id)
      where
        go : (o : Option (ℕ × Piece)) (p : Option Piece) → p ≡ piece_only o → (cut_start r o).1 ≡ elim p [ None ↦ r.1 | Some x ↦ cond x.alone (redrawn x.first_line r.1) r.1 ]
        go None p e = rw e
        go (Some z) p e = rw e (alike z.1.alone)
          where
            alike : (b : Bool) → (cond b (z.0, redrawn z.1.first_line r.1) r).1 ≡ cond b (redrawn z.1.first_line r.1) r.1
            alike true = refl
            alike false = refl

    module _ (h : AllWords pieces lines 0 at xs) (m : ℕ) (ks : keys 3 m pieces ≡ map (λ x. x.of.id) xs) where
      -- a row that is cut and keeps its id points to its first piece
      pub row-pointed : (w : List ℕ) → length w ≡ 5 → stored c (span_at 2 w) ≡ true → boundary_laid w (boundary_after (word 2 w, boundary_of c w)) ≡ pointed_piece pieces m lines w
      unfolding boundary_of
      row-pointed w l s = rw ks (go (row_with (word 0 w) (map (λ x. x.of.id) xs)) (found-piece 0 at xs h (word 0 w)))
        where
          b : Boundary
          b = boundary_of c w

          found : (j : ℕ) (z : ℕ × Piece) → PieceWords pieces lines (0 + j) z.0 z.1 → z.1.of.id ≡ word 0 w → boundary_laid w (cut_start (word 2 w, b) (Some z)) ≡ pointed_at pieces lines w (Some j)
          found j z p i =
              let n : 0 + j ≡ j = omega arith in
              let q : PieceWords pieces lines j z.0 z.1 = rw n at p in
              let e : eqb (word (j * 3 + 1) pieces) (word 0 w) ≡ z.1.alone = ap (λ k. eqb k (word 0 w)) q.first ∙ (ap (eqb z.1.first) (sym i) ∙ q.alone) in
              rw (e, q.start, q.first-size) (alike z.1.alone)
            where
              alike : (a : Bool) → boundary_laid w (cond a (z.0, redrawn z.1.first_line b) (word 2 w, b)) ≡ cond a (over w 2 (z.0 ∷ length z.1.first_line ∷ [])) w
              alike true = boundary-redrawn c w l z.0 z.1.first_line
              alike false = boundary-stands c w l s

          go : (r : Option ℕ) → FoundPiece 0 at xs (word 0 w) r → boundary_laid w (cut_start (word 2 w, b) (piece_start at xs (word 0 w))) ≡ pointed_at pieces lines w r
          go None f = rw f (boundary-stands c w l s)
          go (Some j) f = rw f.1 (found j f.0 f.2 f.3)

  -- ---- new rows

  -- the new pieces, each with where its line starts
  abbrev pub new_start : ℕ → Piece → List (ℕ × Boundary)
  new_start at x =
      cond x.alone [] ((at, new_piece x.of x.first x.first_line) ∷ []) ++ ((at + length x.first_line, new_piece x.of x.second x.second_line) ∷ [])

  unfoldable pub new_starts : ℕ → List Piece → List (ℕ × Boundary)
  new_starts at [] = []
  new_starts at (x ∷ xs) = new_start at x ++ new_starts (at + piece_size x) xs

  -- they are the map's
  pub starts-new : (at : ℕ) (xs : List Piece) → map (λ r. r.1) (new_starts at xs) ≡ each new_pieces xs
  unfolding new_starts each
  starts-new at [] = refl
  starts-new at (x ∷ xs) = map-append (λ (r : ℕ × Boundary). r.1) (new_start at x) (new_starts (at + piece_size x) xs) ∙ rw (starts-new (at + piece_size x) xs) (go x.alone)
    where
      go : (b : Bool) → map (λ (r : ℕ × Boundary). r.1) (cond b [] ((at, new_piece x.of x.first x.first_line) ∷ []) ++ ((at + length x.first_line, new_piece x.of x.second x.second_line) ∷ [])) ++ each new_pieces xs
          ≡ (cond b [] (new_piece x.of x.first x.first_line ∷ []) ++ (new_piece x.of x.second x.second_line ∷ [])) ++ each new_pieces xs
      go true = refl
      go false = refl

  abbrev given : ℕ × Boundary → List ℕ
  given r = boundary_row r.1.id r.1.kind r.0 (length r.1.geometry) r.1.attributes

  rows_new : (j at : ℕ) (xs : List Piece) → AllWords pieces lines j at xs → (ws : List (List ℕ)) → map kinds ws ≡ map piece_kinds xs → new_rows pieces lines j ws ≡ map given (new_starts at xs)
  unfolding AllWords new_rows new_starts
  rows_new j at [] h [] e = refl
  rows_new j at [] h (w ∷ ws) e = let z : ◌≡◌ {A = ℕ} 0 1 = cc in absurd (omega arith)
  rows_new j at (x ∷ xs) h [] e = let z : ◌≡◌ {A = ℕ} 0 1 = cc in absurd (omega arith)
  rows_new j at (x ∷ xs) h (w ∷ ws) e =
      let q = h.0 in
      let o : kinds w ≡ piece_kinds x = cc in
      let r : map kinds ws ≡ map piece_kinds xs = cc in
      let k : word 1 w ≡ x.of.kind = ap (λ (b : ℕ × ℕ). b.0) o in
      let a : word 4 w ≡ x.of.attributes = ap (λ (b : ℕ × ℕ). b.1) o in
      rw (rows_new (suc j) (at + piece_size x) xs h.1 ws r, q.first, q.id, q.second, q.start, q.first-size, q.second-size, k, a, q.alone, map-append given (new_start at x) (new_starts (at + piece_size x) xs))
      (alike x x.alone (map given (new_starts (at + piece_size x) xs)))
    where
      alike : (x : Piece) (b : Bool) (rest : List (List ℕ))
          → (cond b [] (boundary_row x.first x.of.kind at (length x.first_line) x.of.attributes ∷ []) ++ (boundary_row x.second x.of.kind (at + length x.first_line) (length x.second_line) x.of.attributes ∷ [])) ++ rest
          ≡ map given (cond b [] ((at, new_piece x.of x.first x.first_line) ∷ []) ++ ((at + length x.first_line, new_piece x.of x.second x.second_line) ∷ [])) ++ rest
      alike x true rest = refl
      alike x false rest = refl

  writes-given : (w : List ℕ) (rs : List (ℕ × Boundary)) → writes 5 boundary_laid w rs ≡ writes 5 as_given w (map given rs)
  unfolding writes
  writes-given w [] = refl
  writes-given w (r ∷ rs) = rw (boundary-new (take 5 w) r.0 r.1, writes-given (drop 5 w) rs)

  appended-given : (rs : List (ℕ × Boundary)) (t : List ℕ) → appended_rows 5 boundary_laid rs t ≡ appended_rows 5 as_given (map given rs) t
  unfolding appended_rows
  appended-given rs t = rw (writes-given (drop (word 0 t * 5) (drop 1 t)) rs, length-map rs given)

  -- ---- the table

  module _ (c : List Float) (at : ℕ) (xs : List Piece) (h : AllWords pieces lines 0 at xs) (m : ℕ) (ks : keys 3 m pieces ≡ map (λ x. x.of.id) xs) (t : List ℕ) (marks : List Bool)
      (room : 1 + word 0 t * 5 ≤ length t) (fine : all (λ b. b) (rows 5 (λ w. stored c (span_at 2 w)) t) ≡ true) (whose : map (boundary_of c) (picked marks (rows 5 (λ w. w) t)) ≡ map (λ x. x.of) xs)
      (fresh : all (λ b. not (has b.id (keys 5 (word 0 t) (drop 1 t)))) (each new_pieces xs) ≡ true) where
    abbrev dec : List ℕ → ℕ × Boundary
    dec w = (word 2 w, boundary_of c w)

    -- the boundaries after the cut, each with where its line starts
    abbrev pub boundary_starts : List (ℕ × Boundary)
    boundary_starts = map (boundary_after c at xs) (rows 5 dec t) ++ new_starts at xs

    abbrev table : List ℕ
    table = on_rows 5 (pointed_piece pieces m lines) t

    held : word 0 t * 5 ≤ length (drop 1 t)
    held = rw length-drop (omega arith)

    same_id : (r : ℕ × Boundary) → (boundary_after c at xs r).1.id ≡ r.1.id
    same_id r = ap (λ (b : Boundary). b.id) (after-cut c at xs r) ∙ drawn-id xs r.1

    grown : store_rows 5 boundary_laid (λ r. r.1.id) t boundary_starts ≡ appended_rows 5 boundary_laid (new_starts at xs) (on_rows 5 (λ w. boundary_laid w (boundary_after c at xs (dec w))) t)
    unfolding rows
    grown =
        store-more 5 boundary_laid (λ r. r.1.id) dec t room (λ w. stored c (span_at 2 w)) (boundary_after c at xs) (new_starts at xs) (λ w. unfold boundary_of in refl) same_id
        (λ w l g. boundary-laid-length w (boundary_after c at xs (dec w)).0 (boundary_after c at xs (dec w)).1) fine
        (sym (all_map (λ (b : Boundary). not (has b.id (keys 5 (word 0 t) (drop 1 t)))) (λ (r : ℕ × Boundary). r.1) (new_starts at xs)) ∙ (ap (all (λ (b : Boundary). not (has b.id (keys 5 (word 0 t) (drop 1 t))))) (starts-new at xs) ∙ fresh))

    pointed-table : on_rows 5 (λ w. boundary_laid w (boundary_after c at xs (dec w))) t ≡ table
    unfolding rows
    pointed-table = table-agree 5 (λ w. stored c (span_at 2 w)) (λ w. boundary_laid w (boundary_after c at xs (dec w))) (pointed_piece pieces m lines) (row-pointed c at xs h m ks) t held fine

    -- rows that point elsewhere have their kinds
    row-kinds : (w : List ℕ) → length w ≡ 5 → kinds (pointed_piece pieces m lines w) ≡ kinds w
    row-kinds w l = go (row_with (word 0 w) (keys 3 m pieces))
      where
        pointed : (a b : ℕ) → kinds (over w 2 (a ∷ b ∷ [])) ≡ kinds w
        pointed a b = rw (get_d_over-before w 2 (a ∷ b ∷ []) 1 0 (omega arith) (omega arith), get_d_over-behind w 2 (a ∷ b ∷ []) 4 0 (omega arith) (omega arith))

        either : (b : Bool) (x y : ℕ) → kinds (cond b (over w 2 (x ∷ y ∷ [])) w) ≡ kinds w
        either true x y = pointed x y
        either false x y = refl

        go : (r : Option ℕ) → kinds (pointed_at pieces lines w r) ≡ kinds w
        go None = refl
        go (Some j) = either (eqb (word (j * 3 + 1) pieces) (word 0 w)) (word (j * 3) lines) (word (j * 3 + 1) lines)

    row-long : (w : List ℕ) → length w ≡ 5 → length (pointed_piece pieces m lines w) ≡ 5
    row-long w l = go (row_with (word 0 w) (keys 3 m pieces))
      where
        either : (b : Bool) (x y : ℕ) → length (cond b (over w 2 (x ∷ y ∷ [])) w) ≡ 5
        either true x y = length_over w 2 (x ∷ y ∷ []) (omega arith) ∙ l
        either false x y = l

        go : (r : Option ℕ) → length (pointed_at pieces lines w r) ≡ 5
        go None = l
        go (Some j) = either (eqb (word (j * 3 + 1) pieces) (word 0 w)) (word (j * 3) lines) (word (j * 3 + 1) lines)

    table-kinds : rows 5 kinds table ≡ rows 5 kinds t
    unfolding rows on_rows
    table-kinds = rows-read 5 (λ w. true) (pointed_piece pieces m lines) kinds kinds (λ w l g. row-long w l) (λ w l g. row-kinds w l) (word 0 t) (drop 1 t) held (every-row 5 (word 0 t) (drop 1 t))

    picked-kinds : (u : List ℕ) → map kinds (picked marks (rows 5 (λ w. w) u)) ≡ picked marks (rows 5 kinds u)
    picked-kinds u = picked-map kinds marks (rows 5 (λ w. w) u) ∙ ap (picked marks) (mapped-rows 5 (λ (w : List ℕ). w) kinds u)

    whose-kinds : map kinds (picked marks (rows 5 (λ w. w) table)) ≡ map piece_kinds xs
    unfolding boundary_of
    whose-kinds =
        picked-kinds table
        ∙ (ap (picked marks) table-kinds
        ∙ (sym (picked-kinds t)
        ∙ (sym (map-twice (boundary_of c) (λ (b : Boundary). (b.kind, b.attributes)) (picked marks (rows 5 (λ w. w) t)))
        ∙ (ap (map (λ (b : Boundary). (b.kind, b.attributes))) whose ∙ map-twice (λ (x : Piece). x.of) (λ (b : Boundary). (b.kind, b.attributes)) xs))))

    -- THE LAW
    pub boundaries_are_cut : store_rows 5 boundary_laid (λ r. r.1.id) t boundary_starts ≡ boundaries_cut pieces m lines marks t
    unfolding boundaries_cut
    boundaries_are_cut =
        grown
        ∙ (ap (appended_rows 5 boundary_laid (new_starts at xs)) pointed-table
        ∙ (appended-given (new_starts at xs) table ∙ ap (λ z. appended_rows 5 as_given z table) (sym (rows_new 0 at xs h (picked marks (rows 5 (λ w. w) table)) whose-kinds))))
