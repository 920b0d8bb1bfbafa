-- Where the lines of the cut map lie before the layout: the pieces among the drawn lines, the others in the coordinates. Assumes nothing.
use Rattle.std.specs.Prelude.{Option, None, Some}
use mathlib.Core.Path.{◌≡◌, refl, sym, ap, ◌∙◌, subst}
use Prim.Native.Nat.{ℕ, zero, suc, ◌+◌, ◌*◌, ◌/◌, ◌≤◌, ◌<◌}
use native.Mathlib.Omega.{arith}
use mathlib.Core.Bool.{Bool, true, false, cond}
use mathlib.Core.List.{List, [], ◌∷◌, ◌++◌, map, append-nil}
use lib.Dec.{eqb}
use lib.Ieee.{Float}
use lib.ListN.{length, take, drop}
use lib.Seq.{drop-drop}
use Rattle.lists.specs.Every.{all}
use Rattle.lists.specs.Rows.{reads, row_with, later}
use Rattle.lists.specs.Select.{each, find, numbered, second_of}
use Rattle.polyline.specs.Polyline.{flat}
use Rattle.entities.specs.Records.{Line, Lane, Boundary}
use Rattle.rules.specs.Sound.{optional_line, total}
use Rattle.rules.specs.Merge.{redrawn}
use Rattle.rules.specs.Split.{Piece, LanePlan, plan_for, new_piece}
use Rattle.tables.specs.View.{word, mark, part, rows, lane_of, boundary_of}
use Rattle.tables.specs.Formed.{span_at, center_span}
use Rattle.apart.specs.Marks.{within}
use Rattle.store.specs.Laid.{points_of}
use Rattle.store.proofs.LaidRows.{Held, held_cut}
use Rattle.layout.specs.Pointed.{EachOf, LineIn}
use Rattle.layout.proofs.Lines.{each-of-append, each-of-map}
use Rattle.layout.proofs.Standing.{each-of-rows, line-lies, center_lies}
use Rattle.grow.proofs.Growing.{second-numbered, number_at}
use Rattle.lookup.specs.Lookup.{points_or, row_at}
use Rattle.split_rows.specs.Halves.{first_start, first_size}
use Rattle.split_laid.proofs.Lanes.{RowPlan, PlanFound, lane_after, second_starts, cut_by, by-found, start_by}
use Rattle.split_laid.proofs.Boundaries.{piece_size, piece_start, cut_start, boundary_after, new_start, new_starts}

-- ---- lines one behind the other

line-held : (work : List Float) (at : ℕ) (l : Line) → Held work at (l ∷ []) → LineIn work at l
unfolding part each total flat
line-held work at l h = let e : length l + 0 ≡ length l = omega arith in rw (e, append-nil) at h

unfoldable pub Runs : List Float → ℕ → List Line → Type 0
Runs work at [] = ◌≡◌ {A = ℕ} 0 0
Runs work at (l ∷ ls) = LineIn work at l × Runs work (at + length l) ls

-- as they are held
pub runs-held : (work : List Float) (at : ℕ) (ls : List Line) → Held work at ls → Runs work at ls
unfolding Runs total
runs-held work at [] h = refl
runs-held work at (l ∷ ls) h =
    let c = held_cut work at (l ∷ []) ls h in
    let e : points_of (l ∷ []) ≡ length l = omega arith in
    (line-held work at l c.0, runs-held work (at + length l) ls (rw e at c.1))

-- ---- pieces

-- the lines of pieces, in the order in which they are drawn
unfoldable pub piece_lines : List Piece → List Line
piece_lines [] = []
piece_lines (x ∷ xs) = x.first_line ∷ x.second_line ∷ piece_lines xs

module _ (work : List Float) where
  -- two lines of a piece, and those behind them
  behind-both : (at : ℕ) (x : Piece) (ls : List Line) → Runs work (at + length x.first_line + length x.second_line) ls → Runs work (at + piece_size x) ls
  behind-both at x ls h = let e : at + length x.first_line + length x.second_line ≡ at + piece_size x = omega arith in rw e at h

  -- the first line of the piece of a boundary
  first-lies : (at : ℕ) (xs : List Piece) → Runs work at (piece_lines xs) → (k : ℕ) (z : ℕ × Piece) → piece_start at xs k ≡ Some z → LineIn work z.0 z.1.first_line
  unfolding Runs piece_lines piece_start
  first-lies at [] h k z e = let y : ◌≡◌ {A = ℕ} 0 1 = cc in absurd (omega arith)
  first-lies at (x ∷ xs) h k z e = go (eqb x.of.id k) (first-lies (at + piece_size x) xs (behind-both at x (piece_lines xs) h.1.1) k z) e
    where
      go : (b : Bool) → (piece_start (at + piece_size x) xs k ≡ Some z → LineIn work z.0 z.1.first_line) → cond b (Some (at, x)) (piece_start (at + piece_size x) xs k) ≡ Some z → LineIn work z.0 z.1.first_line
      go true r q = let y : (at, x) ≡ z = cc in subst (λ (v : ℕ × Piece). LineIn work v.0 v.1.first_line) y h.0
      go false r q = r q

  abbrev BoundaryLies : ℕ × Boundary → Type 0
  BoundaryLies r = LineIn work r.0 r.1.geometry

  new-lies : (pieces lines : List ℕ) (at : ℕ) (xs : List Piece) → Runs work at (piece_lines xs) → EachOf BoundaryLies (new_starts pieces lines at xs)
  unfolding Runs piece_lines new_starts EachOf
  new-lies pieces lines at [] h = refl
  new-lies pieces lines at (x ∷ xs) h =
      each-of-append BoundaryLies (new_start pieces lines at x) (new_starts pieces lines (at + piece_size x) xs) (go x.alone) (new-lies pieces lines (at + piece_size x) xs (behind-both at x (piece_lines xs) h.1.1))
    where
      go : (b : Bool) → EachOf BoundaryLies (cond b [] ((at, new_piece x.of x.first x.first_line) ∷ []) ++ ((at + length x.first_line, new_piece x.of x.second x.second_line) ∷ []))
      go true = (h.1.0, refl)
      go false = (h.0, (h.1.0, refl))

  module _ (c : List Float) (reach : ℕ) (few : reach ≤ length c / 3) (begins : take (reach * 3) work ≡ take (reach * 3) c) where
    -- the boundaries of a table that is cut
    pub boundaries-lie : (pieces lines : List ℕ) (at : ℕ) (xs : List Piece) → Runs work at (piece_lines xs) → (t : List ℕ) → all (λ b. b) (rows 5 (λ w. within reach (span_at 2 w)) t) ≡ true
        → EachOf BoundaryLies (map (boundary_after pieces lines c at xs) (rows 5 (λ w. (word 2 w, boundary_of c w)) t) ++ new_starts pieces lines at xs)
    unfolding boundary_of
    boundaries-lie pieces lines at xs h t near =
        let f = boundary_after pieces lines c at xs in
        let rs : List (ℕ × Boundary) = rows 5 (λ w. (word 2 w, boundary_of c w)) t in
        each-of-append BoundaryLies (map f rs) (new_starts pieces lines at xs)
        (each-of-map BoundaryLies f rs (each-of-rows (λ r. BoundaryLies (f r)) 5 (λ w. (word 2 w, boundary_of c w)) (λ w. within reach (span_at 2 w)) t (λ w g. go w g (piece_start at xs (word 0 w)) refl) near))
        (new-lies pieces lines at xs h)
      where
        go : (w : List ℕ) → within reach (span_at 2 w) ≡ true → (o : Option (ℕ × Piece)) → piece_start at xs (word 0 w) ≡ o → BoundaryLies (cut_start pieces lines c at xs (word 2 w, boundary_of c w) o)
        go w g None e = line-lies c work reach few begins 2 w g
        go w g (Some z) e = alike z.1.alone
          where
            alike : (b : Bool) → BoundaryLies (cond b (z.0, redrawn z.1.first_line (boundary_of c w)) (word 2 w, boundary_of c w))
            alike true = first-lies at xs h (word 0 w) z e
            alike false = line-lies c work reach few begins 2 w g

-- ---- centrelines

-- those of the halves, in the order in which they are drawn; one that is absent has no points
unfoldable pub center_lines_of : List LanePlan → List Line
center_lines_of [] = []
center_lines_of (x ∷ ps) = points_or x.first_center ∷ points_or x.second_center ∷ center_lines_of ps

-- where they start, by their measures
unfoldable pub StartsAt : List ℕ → ℕ → ℕ → List LanePlan → Type 0
StartsAt centers rank at [] = ◌≡◌ {A = ℕ} 0 0
StartsAt centers rank at (x ∷ ps) =
    (first_start centers rank ≡ at) × ((first_size centers rank ≡ length (points_or x.first_center)) × StartsAt centers (suc rank) (at + length (points_or x.first_center) + length (points_or x.second_center)) ps)

-- F of every row of a table
each-reads : {A : Type 0} (F : A → Type 0) (s : ℕ) (dec : List ℕ → A) (n : ℕ) (w : List ℕ) → ((j : ℕ) → j < n → F (dec (take s (drop (j * s) w)))) → EachOf F (reads s dec n w)
unfolding reads EachOf
each-reads F s dec zero w h = refl
each-reads F s dec (suc n) w h =
    let z : 0 * s ≡ 0 = omega arith in (
      rw z at (h 0 (omega arith)),
      each-reads F s dec n (drop s w) (λ j l.
          let k : suc j < suc n = omega arith in
          let q : suc j * s ≡ s + j * s = omega arith in
          rw drop-drop (rw q at (h (suc j) k))),
    )

pub each-rows-at : {A : Type 0} (F : A → Type 0) (s : ℕ) (dec : List ℕ → A) (t : List ℕ) → ((j : ℕ) → j < word 0 t → F (dec (row_at s t j))) → EachOf F (rows s dec t)
unfolding rows
each-rows-at F s dec t h = each-reads F s dec (word 0 t) (drop 1 t) (λ j l. rw drop-drop (h j l))

module _ (work : List Float) (centers : List ℕ) where
  optional-lies : (at : ℕ) (o : Option Line) → LineIn work at (points_or o) → EachOf (LineIn work at) (optional_line o)
  unfolding EachOf
  optional-lies at None h = refl
  optional-lies at (Some l) h = (h, refl)

  -- the first half's centreline of a cut lane
  center_found : (rank at : ℕ) (qs : List LanePlan) → Runs work at (center_lines_of qs) → StartsAt centers rank at qs → (k r : ℕ) (x : LanePlan) → row_with k (map (λ x. x.of.id) qs) ≡ Some r → plan_for qs k ≡ Some x
      → LineIn work (first_start centers (rank + r)) (points_or x.first_center)
  unfolding Runs center_lines_of StartsAt row_with find
  center_found rank at [] h s k r x e f = let y : ◌≡◌ {A = ℕ} 0 1 = cc in absurd (omega arith)
  center_found rank at (y ∷ qs) h s k r x e f =
      go (eqb y.of.id k) (row_with k (map (λ x. x.of.id) qs)) (λ r e. center_found (suc rank) (at + length (points_or y.first_center) + length (points_or y.second_center)) qs h.1.1 s.1.1 k r x e) e f
    where
      go : (b : Bool) (u : Option ℕ) → ((r : ℕ) → u ≡ Some r → plan_for qs k ≡ Some x → LineIn work (first_start centers (suc rank + r)) (points_or x.first_center))
          → cond b (Some 0) (later u) ≡ Some r → cond b (Some y) (plan_for qs k) ≡ Some x → LineIn work (first_start centers (rank + r)) (points_or x.first_center)
      go true u i e f =
          let z : y ≡ x = cc in
          let n : 0 ≡ r = cc in
          let m : rank ≡ rank + r = omega arith in
          subst (λ (v : ℕ). LineIn work (first_start centers v) (points_or x.first_center)) m (subst (λ (v : LanePlan). LineIn work (first_start centers rank) (points_or v.first_center)) z (rw s.0 h.0))
      go false (Some q) i e f =
          let n : suc q ≡ r = cc in
          let m : suc rank + q ≡ rank + r = omega arith in
          subst (λ (v : ℕ). LineIn work (first_start centers v) (points_or x.first_center)) m (i q refl f)
      go false None i e f = let z : ◌≡◌ {A = ℕ} 0 1 = cc in absurd (omega arith)

  abbrev LaneLies : ℕ × Lane → Type 0
  LaneLies r = EachOf (LineIn work r.0) (optional_line r.1.centerline)

  module _ (pieces : List ℕ) (m next : ℕ) (ps : List LanePlan) (xs : List Piece) (c : List Float) where
    second-lie : (rank at : ℕ) (qs : List LanePlan) → Runs work at (center_lines_of qs) → StartsAt centers rank at qs → EachOf LaneLies (second_starts pieces m centers next ps xs c rank qs)
    unfolding Runs center_lines_of StartsAt second_starts EachOf
    second-lie rank at [] h s = refl
    second-lie rank at (x ∷ qs) h s = (
      optional-lies (first_start centers rank + first_size centers rank) x.second_center (rw (s.0, s.1.0) h.1.0),
      second-lie (suc rank) (at + length (points_or x.first_center) + length (points_or x.second_center)) qs h.1.1 s.1.1,
    )

    module _ (reach : ℕ) (few : reach ≤ length c / 3) (begins : take (reach * 3) work ≡ take (reach * 3) c) (at : ℕ) (h : Runs work at (center_lines_of ps)) (s : StartsAt centers 0 at ps) where
      -- a lane that is there
      lane_lies : (w : List ℕ) → RowPlan pieces m centers next ps xs c w → all (within reach) (center_span w) ≡ true → LaneLies (lane_after pieces m centers next ps xs c (word 7 w, lane_of c w))
      unfolding lane_of
      lane_lies w p near =
          subst (λ (z : Lane). LaneLies (start_by pieces m centers next ps xs c (word 7 w) (row_with (word 0 w) (map (λ x. x.of.id) ps)), z)) (sym (by-found pieces m centers next ps xs c (lane_of c w)))
          (go (row_with (word 0 w) (map (λ x. x.of.id) ps)) refl p.plan)
        where
          go : (r : Option ℕ) → row_with (word 0 w) (map (λ x. x.of.id) ps) ≡ r → PlanFound pieces m centers next ps xs c w r
              → LaneLies (start_by pieces m centers next ps xs c (word 7 w) r, cut_by pieces m centers next ps xs c (lane_of c w) (plan_for ps (word 0 w)) (second_of (numbered next (map (λ x. x.of.id) ps)) (word 0 w)))
          go None e q = rw q (center_lies c work reach few begins w (mark 6 w) near)
          go (Some rank) e q =
              let n : 0 + rank ≡ rank = omega arith in
              let g = center_found 0 at ps h s (word 0 w) rank q.0 e q.1 in
              rw (q.1, second-numbered next (word 0 w) (map (λ x. x.of.id) ps) ∙ ap (number_at next) e) (optional-lies (first_start centers rank) q.0.first_center (rw n at g))

      pub lanes-lie : (t : List ℕ) → ((j : ℕ) → j < word 0 t → RowPlan pieces m centers next ps xs c (row_at 52 t j)) → ((j : ℕ) → j < word 0 t → all (within reach) (center_span (row_at 52 t j)) ≡ true)
          → EachOf LaneLies (map (lane_after pieces m centers next ps xs c) (rows 52 (λ w. (word 7 w, lane_of c w)) t) ++ second_starts pieces m centers next ps xs c 0 ps)
      lanes-lie t plans near =
          let f = lane_after pieces m centers next ps xs c in
          let rs : List (ℕ × Lane) = rows 52 (λ w. (word 7 w, lane_of c w)) t in
          each-of-append LaneLies (map f rs) (second_starts pieces m centers next ps xs c 0 ps)
          (each-of-map LaneLies f rs (each-rows-at (λ r. LaneLies (f r)) 52 (λ w. (word 7 w, lane_of c w)) t (λ j l. lane_lies (row_at 52 t j) (plans j l) (near j l))))
          (second-lie 0 at ps h s)
