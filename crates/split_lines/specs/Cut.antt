-- The lines that a cut makes of a table's lines: how many points they have, where they lie one behind the other, and what is drawn. Nothing that a host calls
-- rests on this page; the laws of split_laid tie it to the rules.
use Rattle.std.specs.Prelude.{◌≡◌, ℕ, suc, ◌+◌, ◌*◌, ◌≤◌, Bool, true, not, ◌&&◌, ◌||◌, cond, List, [], ◌∷◌, ◌++◌, map, leb, Float, length, Option, None, Some}
use Rattle.lists.specs.Select.{each}
use Rattle.polyline.specs.Polyline.{points, first_piece, second_piece}
use Rattle.entities.specs.Records.{Line}
use Rattle.rules.specs.Names.{Point2}
use Rattle.rules.specs.Map.{station}
use Rattle.rules.specs.Limits.{max_line_points}
use Rattle.tables.specs.View.{word, part, line_at, rows}
use Rattle.tables.specs.Formed.{span_at, stored, counted}
use Rattle.tables.specs.Columns.{row_count}
use Rattle.row_tests.specs.Good.{all_rows}
use Rattle.layout.specs.Layout.{Column}
use Rattle.order.specs.Order.{column_of, row_has, least}
use Rattle.split_plan.specs.Placing.{picked}
use Rattle.split_lines.specs.declared.Sizes.{Sizes}

-- ---- a line

-- "A line is cut at its nearest station to the split point": the line before it and the line behind it. An empty line has no station.
abbrev pub piece_at : (Line → Float → Line) → Line → Option Float → Line
piece_at piece l None = []
piece_at piece l (Some s) = piece l s

abbrev pub first_line_of : Point2 → Line → Line
first_line_of p l = piece_at first_piece l (station l p)

abbrev pub second_line_of : Point2 → Line → Line
second_line_of p l = piece_at second_piece l (station l p)

abbrev pub both_lines : Point2 → Line → Line
both_lines p l = first_line_of p l ++ second_line_of p l

abbrev pub sizes_of : Point2 → Line → Sizes
sizes_of p l = record { first = length (first_line_of p l); second = length (second_line_of p l) }

-- ---- lines of a table

-- the lines of the rows that are chosen; a row without a line has an empty one
abbrev pub line_in : List Float → Column → List ℕ → Line
line_in c k w = cond (k.has w) (line_at c k.start w) []

abbrev pub chosen_lines : List Float → Column → List Bool → List ℕ → List Line
chosen_lines c k chosen t = map (line_in c k) (picked chosen (rows k.words (λ w. w) t))

-- where their pieces lie, one behind the other from point `at` on: rows of three words, where the first piece starts, its points, the second's points
unfoldable pub measured : Point2 → ℕ → List Line → List ℕ
measured p at [] = []
measured p at (l ∷ ls) = at ∷ length (first_line_of p l) ∷ length (second_line_of p l) ∷ measured p (at + length (both_lines p l)) ls

-- such a row
abbrev pub measure_row : ℕ → Sizes → List ℕ
measure_row at s = at ∷ s.first ∷ s.second ∷ []

-- the pieces
unfoldable pub drawn_pieces : Point2 → List Line → Line
drawn_pieces p ls = each (both_lines p) ls

-- the line of the row from word `row` on, whose start is `offset` words further
abbrev pub row_line : List Float → ℕ → Bool → ℕ → List ℕ → Line
row_line c offset marked row t = cond (row_has marked row t) (points (part c (word (row + offset) t) (word (suc (row + offset)) t))) []

-- ---- what is asked

-- of a row: its words are there, and its line lies in the coordinates and has at most 256 points
pub record RowStored (c : List Float) (offset : ℕ) (marked : Bool) (row : ℕ) (t : List ℕ) : Type 0 where
  pub words : row + (offset + 2) ≤ length t
  pub row_words : row + least marked ≤ length t
  pub lies : row_has marked row t ≡ true → (stored c (span_at (row + offset) t) ≡ true) × (word (suc (row + offset)) t ≤ max_line_points)

-- the lines of the rows lie in the coordinates, and have at most 256 points
abbrev pub line_stored : List Float → Column → List ℕ → Bool
line_stored c k w = not (k.has w) || (stored c (span_at k.start w) && leb (word (suc k.start) w) max_line_points)

pub record Chosen (c : List Float) (stride offset : ℕ) (marked : Bool) (chosen : List Bool) (t : List ℕ) : Type 0 where
  pub line : offset + 2 ≤ stride
  pub row : least marked ≤ stride
  pub narrow : stride ≤ 512
  pub counts : counted 4096 stride t ≡ true
  pub lines : all_rows stride (line_stored c (column_of stride offset marked)) t ≡ true
  pub marks : word row_count t ≤ length chosen

-- room for a row of each line, and a place that does not run over
pub record Measurable (c : List Float) (stride offset : ℕ) (marked : Bool) (chosen : List Bool) (t : List ℕ) (at : ℕ) (out : List ℕ) : Type 0 where
  pub table : Chosen c stride offset marked chosen t
  pub near : at ≤ 2097152
  pub room : length (chosen_lines c (column_of stride offset marked) chosen t) * 3 ≤ length out

-- room for the pieces
pub record Drawable (c : List Float) (stride offset : ℕ) (marked : Bool) (chosen : List Bool) (t : List ℕ) (p : Point2) (at : ℕ) (out : List Float) : Type 0 where
  pub table : Chosen c stride offset marked chosen t
  pub room : (at + length (drawn_pieces p (chosen_lines c (column_of stride offset marked) chosen t))) * 3 ≤ length out
