-- The tables of boundaries and lanes after a split, in words. Pieces of cut boundaries are rows of three words, the boundary, its first piece, its second; the
-- measures of their lines are rows of three words in the same order, where the first piece starts, its points, the second's points. Nothing that a host calls
-- rests on this page; the laws of split_laid tie it to the rules.
use Rattle.std.specs.Prelude.{◌≡◌, ℕ, suc, ◌+◌, ◌*◌, ◌≤◌, ◌<◌, Bool, true, cond, List, [], ◌∷◌, ◌++◌, eqb, leb, length, take, drop, Option, None, Some}
use Rattle.lists.specs.Every.{all}
use Rattle.lists.specs.Rows.{keys, over, row_with}
use Rattle.lists.specs.Select.{ascending}
use Rattle.rules.specs.Limits.{max_boundaries, max_lanes}
use Rattle.tables.specs.View.{word, rows}
use Rattle.tables.specs.Formed.{counted}
use Rattle.tables.specs.Columns.{boundary_attributes, boundary_kind, boundary_start, boundary_words, lane_words, row_count, row_id}
use Rattle.store.specs.Store.{writes}
use Rattle.store.specs.Rows.{on_rows, appended_rows}
use Rattle.lookup.specs.Lookup.{row_at}
use Rattle.merge_draw.specs.Redrawing.{boundary_row, as_given}
use Rattle.split_plan.specs.Placing.{picked, marked_rows}
use Rattle.split_rows.specs.Halves.{lane_cut, second_row, Halved, RowCuts}

-- ---- boundaries

-- a boundary that keeps its id for its first piece points to that piece's line
abbrev pub pointed_at : List ℕ → List ℕ → List ℕ → Option ℕ → List ℕ
pointed_at pieces lines w (Some j) = cond (eqb (word (j * 3 + 1) pieces) (word row_id w)) (over w boundary_start (word (j * 3) lines ∷ word (j * 3 + 1) lines ∷ [])) w
pointed_at pieces lines w None = w

abbrev pub pointed_piece : List ℕ → ℕ → List ℕ → List ℕ → List ℕ
pointed_piece pieces m lines w = pointed_at pieces lines w (row_with (word row_id w) (keys 3 m pieces))

-- the rows of the new pieces of number j, of the boundary in row w: the first, unless it keeps the boundary's id, then the second
abbrev pub second_piece_row : List ℕ → List ℕ → ℕ → List ℕ → List ℕ
second_piece_row pieces lines j w =
    boundary_row (word (j * 3 + 2) pieces) (word boundary_kind w) (word (j * 3) lines + word (j * 3 + 1) lines) (word (j * 3 + 2) lines) (word boundary_attributes w)

abbrev pub first_piece_row : List ℕ → List ℕ → ℕ → List ℕ → List ℕ
first_piece_row pieces lines j w = boundary_row (word (j * 3 + 1) pieces) (word boundary_kind w) (word (j * 3) lines) (word (j * 3 + 1) lines) (word boundary_attributes w)

abbrev pub new_row : List ℕ → List ℕ → ℕ → List ℕ → List (List ℕ)
new_row pieces lines j w = cond (eqb (word (j * 3 + 1) pieces) (word (j * 3) pieces)) [] (first_piece_row pieces lines j w ∷ []) ++ (second_piece_row pieces lines j w ∷ [])

unfoldable pub new_rows : List ℕ → List ℕ → ℕ → List (List ℕ) → List (List ℕ)
new_rows pieces lines j [] = []
new_rows pieces lines j (w ∷ ws) = new_row pieces lines j w ++ new_rows pieces lines (suc j) ws

-- the new pieces of the marked boundaries behind the last row
abbrev pub pieces_added : List ℕ → List ℕ → List Bool → List ℕ → List ℕ
pieces_added pieces lines marks t = appended_rows boundary_words as_given (new_rows pieces lines 0 (picked marks (rows boundary_words (λ w. w) t))) t

unfoldable pub boundaries_cut : List ℕ → ℕ → List ℕ → List Bool → List ℕ → List ℕ
boundaries_cut pieces m lines marks t = pieces_added pieces lines marks (on_rows boundary_words (pointed_piece pieces m lines) t)

-- ---- lanes

-- the rows of cut lanes, each beside its place among them
unfoldable pub ranked : ℕ → List (List ℕ) → List (ℕ × List ℕ)
ranked r [] = []
ranked r (w ∷ ws) = (r, w) ∷ ranked (suc r) ws

abbrev pub second_onto : List ℕ → ℕ → List ℕ → ℕ → List ℕ → List ℕ → ℕ × List ℕ → List ℕ
second_onto pieces m cut next centers w r = second_row pieces m cut next centers r.0 r.1 w

-- second halves written behind the last row, and not counted yet
unfoldable pub halves_put : List ℕ → ℕ → List ℕ → ℕ → List ℕ → List Bool → List ℕ → List ℕ
halves_put pieces m cut next centers seen t =
    let n = word row_count t * lane_words in
    let w = drop 1 t in
    word row_count t ∷ take n w ++ writes lane_words (second_onto pieces m cut next centers) (drop n w) (ranked 0 (marked_rows seen t))

unfoldable pub lanes_cut : List ℕ → ℕ → List ℕ → ℕ → List ℕ → List Bool → List ℕ → List ℕ
lanes_cut pieces m cut next centers seen t =
    appended_rows lane_words (second_onto pieces m cut next centers) (ranked 0 (marked_rows seen t)) (on_rows lane_words (lane_cut pieces m cut next centers) t)

-- ---- what is asked

-- of the boundaries: a mark for each, as many pieces as marks, room for the new rows, and numbers that do not run over
pub record BoundariesCut (pieces : List ℕ) (m : ℕ) (lines : List ℕ) (marks : List Bool) (t : List ℕ) : Type 0 where
  pub counts : counted max_boundaries boundary_words t ≡ true
  pub marked : word row_count t ≤ length marks
  pub many : length (picked marks (rows boundary_words (λ w. w) t)) ≡ m
  pub pieces_room : m * 3 ≤ length pieces
  pub pieces_ascend : ascending (keys 3 m pieces) ≡ true
  pub lines_room : m * 3 ≤ length lines
  pub lines_near : all (λ i. leb i 4194304) lines ≡ true
  pub room : 1 + (word row_count t + length (new_rows pieces lines 0 (picked marks (rows boundary_words (λ w. w) t)))) * boundary_words ≤ length t

-- of the rows of a lane table
abbrev pub RowsCut : ℕ → List ℕ → Type 0
RowsCut next t = (i : ℕ) → i < word row_count t → RowCuts next (row_at lane_words t i)

-- of the lanes: as many marks as cut lanes, and room for the second halves
pub record LanesCut (pieces : List ℕ) (m : ℕ) (cut : List ℕ) (next : ℕ) (centers : List ℕ) (seen : List Bool) (t : List ℕ) : Type 0 where
  pub halved : Halved pieces m cut next centers
  pub counts : counted max_lanes lane_words t ≡ true
  pub marked : word row_count t ≤ length seen
  pub many : length (marked_rows seen t) ≡ length cut
  pub rows : RowsCut next t
  pub room : 1 + (word row_count t + length cut) * lane_words ≤ length t
