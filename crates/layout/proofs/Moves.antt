-- Rows whose lines were moved: what is read of them, how many they are, and where their lines lie. Assumes nothing.
use mathlib.Core.Path.{◌≡◌, refl, sym, ◌∙◌}
use mathlib.Core.Bool.{true}
use mathlib.Core.List.{List, [], ◌∷◌, ◌++◌}
use Prim.Native.Nat.{ℕ, zero, suc, ◌+◌, ◌*◌, ◌≤◌}
use native.Mathlib.Nat.{not-suc-le-zero}
use native.Mathlib.Omega.{arith}
use lib.ListN.{length, set, take, drop, length-append, length-drop}
use lib.Seq.{length-take-le, take_at, drop_at}
use Rattle.lists.specs.Rows.{reads}
use Rattle.lists.specs.Select.{each}
use Rattle.tables.specs.View.{word, rows}
use Rattle.tables.specs.Formed.{Span, span_at, counted}
use Rattle.apart.proofs.Marks.{counted-facts}
use Rattle.layout.specs.Layout.{points_in, Column, plain, line_of, column_lines, moved, moves, laid_from, left_edges_of, right_edges_of}
use Rattle.layout.proofs.Column.{lines_in, lines_in_lem, lines_more, moves_more, length_moved}

-- ---- n rows, and a table

module _ (k : Column) where
  pub row-length : (w : List ℕ) → k.words ≤ length w → length (take k.words w) ≡ k.words
  row-length w h = length-take-le k.words w h

  moved_length : (at : ℕ) (w : List ℕ) → k.words ≤ length w → length (moved k at (take k.words w)) ≡ k.words
  moved_length at w h = length_moved k at (take k.words w) ∙ row-length w h

  -- the first row of those moved, and the others
  pub first-moved : (n at : ℕ) (w : List ℕ) → k.words ≤ length w → take k.words (moves k (suc n) at w) ≡ moved k at (take k.words w)
  first-moved n at w h =
      rw (moves_more k n at w) (take_at (moved k at (take k.words w)) (moves k n (at + points_in (line_of k (take k.words w))) (drop k.words w)) k.words (moved_length at w h))

  pub others-moved : (n at : ℕ) (w : List ℕ) → k.words ≤ length w → drop k.words (moves k (suc n) at w) ≡ moves k n (at + points_in (line_of k (take k.words w))) (drop k.words w)
  others-moved n at w h =
      rw (moves_more k n at w) (drop_at (moved k at (take k.words w)) (moves k n (at + points_in (line_of k (take k.words w))) (drop k.words w)) k.words (moved_length at w h))

  pub length-moves : (n at : ℕ) (w : List ℕ) → n * k.words ≤ length w → length (moves k n at w) ≡ length w
  length-moves zero at w h = unfold moves in refl
  length-moves (suc n) at w h =
      let p : k.words ≤ length w = omega arith in
      let q : n * k.words ≤ length (drop k.words w) = rw length-drop (omega arith) in
      rw (moves_more k n at w, length-append, moved_length at w p, length-moves n (at + points_in (line_of k (take k.words w))) (drop k.words w) q, length-drop) (omega arith)

  module _ (t : List ℕ) (at : ℕ) where
    pub laid-count : 1 ≤ length t → word 0 (laid_from at k t) ≡ word 0 t
    unfolding laid_from
    laid-count h = go t h
      where
        go : (v : List ℕ) → 1 ≤ length v → word 0 (take 1 v ++ moves k (word 0 t) at (drop 1 t)) ≡ word 0 v
        go [] h = absurd (not-suc-le-zero h)
        go (x ∷ v) h = refl

    pub laid-rows : 1 ≤ length t → drop 1 (laid_from at k t) ≡ moves k (word 0 t) at (drop 1 t)
    unfolding laid_from
    laid-rows h = drop_at (take 1 t) (moves k (word 0 t) at (drop 1 t)) 1 (length-take-le 1 t h)

    pub length-laid-table : 1 + word 0 t * k.words ≤ length t → length (laid_from at k t) ≡ length t
    unfolding laid_from
    length-laid-table h =
        let p : 1 ≤ length t = omega arith in
        let q : word 0 t * k.words ≤ length (drop 1 t) = rw length-drop (omega arith) in
        rw (length-append, length-take-le 1 t p, length-moves (word 0 t) at (drop 1 t) q, length-drop) (omega arith)

    -- a layout keeps the count and the length
    pub counted-laid : (most : ℕ) → counted most k.words t ≡ true → counted most k.words (laid_from at k t) ≡ true
    counted-laid most h = let f = counted-facts most k.words t h in rw (laid-count f.0, length-laid-table f.1.1) h

-- ---- what is read of them

-- of lines that follow one another a fact Q speaks part by part; f reads of a moved row what g reads of the row
module _ {B : Type 0} (k : Column) (Q : ℕ → List Span → Type 0) (cut : (at : ℕ) (a b : List Span) → Q at (a ++ b) → Q at a × Q (at + points_in a) b) (f g : List ℕ → B)
    (same : (at : ℕ) (r : List ℕ) → length r ≡ k.words → Q at (line_of k r) → f (moved k at r) ≡ g r) where
  reads-moves : (n at : ℕ) (w : List ℕ) → n * k.words ≤ length w → Q at (lines_in k n w) → reads k.words f n (moves k n at w) ≡ reads k.words g n w
  reads-moves zero at w h q = unfold reads in refl
  reads-moves (suc n) at w h q =
      let p : k.words ≤ length w = omega arith in
      let l : n * k.words ≤ length (drop k.words w) = rw length-drop (omega arith) in
      let r = take k.words w in
      let d = cut at (line_of k r) (lines_in k n (drop k.words w)) (rw (lines_more k n w) at q) in
      let e : f (take k.words (moves k (suc n) at w)) ≡ g r = rw (first-moved k n at w p) (same at r (row-length k w p) d.0) in
      let s : reads k.words f n (drop k.words (moves k (suc n) at w)) ≡ reads k.words g n (drop k.words w) =
      rw (others-moved k n at w p) (reads-moves n (at + points_in (line_of k r)) (drop k.words w) l d.1) in
      step f (moves k (suc n) at w) ∙ rw (e, s) (sym (step g w))
    where
      step : (d : List ℕ → B) (v : List ℕ) → reads k.words d (suc n) v ≡ d (take k.words v) ∷ reads k.words d n (drop k.words v)
      step d v = unfold reads in refl

  pub rows-laid : (most at : ℕ) (t : List ℕ) → counted most k.words t ≡ true → Q at (column_lines k t) → rows k.words f (laid_from at k t) ≡ rows k.words g t
  unfolding rows
  rows-laid most at t h q =
      let c = counted-facts most k.words t h in
      rw (laid-count k t at c.0, laid-rows k t at c.0) (reads-moves (word 0 t) at (drop 1 t) (rw length-drop (omega arith)) (rw (lines_in_lem k t) at q))

-- a reading that does not see where the lines start
pub rows-kept : {B : Type 0} (k : Column) (f : List ℕ → B) → ((at : ℕ) (r : List ℕ) → length r ≡ k.words → f (moved k at r) ≡ f r)
    → (most at : ℕ) (t : List ℕ) → counted most k.words t ≡ true → rows k.words f (laid_from at k t) ≡ rows k.words f t
rows-kept k f same most at t h =
    rows-laid k (λ a ss. 0 ≤ 0) (λ a x y q. (omega arith, omega arith)) f f (λ a r l q. same a r l) most at t h (omega arith)

-- ---- a line in every row

each-one : (s j n : ℕ) (w : List ℕ) → lines_in (plain s j) n w ≡ reads s (span_at j) n w
unfolding lines_in reads each
each-one s j zero w = refl
each-one s j (suc n) w = rw (each-one s j n (drop s w))

pub plain_lines : (s j : ℕ) (t : List ℕ) → column_lines (plain s j) t ≡ rows s (span_at j) t
unfolding rows
plain_lines s j t = lines_in_lem (plain s j) t ∙ each-one s j (word 0 t) (drop 1 t)

-- the right edges are where they were after the left ones are laid out
edge_kept : (at : ℕ) (r : List ℕ) → length r ≡ 7 → span_at 3 (set r 1 at) ≡ span_at 3 r
edge_kept at [] h = absurd (omega arith)
edge_kept at (x ∷ []) h = absurd (omega arith)
edge_kept at (x ∷ y ∷ r) h = refl

pub rights-kept : (most at : ℕ) (t : List ℕ) → counted most 7 t ≡ true → column_lines right_edges_of (laid_from at left_edges_of t) ≡ column_lines right_edges_of t
rights-kept most at t h = plain_lines 7 3 (laid_from at left_edges_of t) ∙ rows-kept left_edges_of (span_at 3) edge_kept most at t h ∙ sym (plain_lines 7 3 t)
