-- Where lines lie after a split or a merge: all lines are laid out anew, one after another from point 0, in the order of `spans`. They are
-- taken from `work`, an array of coordinates into which the rows point; nothing of a row changes but where its lines start.
use Rattle.std.specs.Prelude.{ℕ, zero, suc, ◌+◌, ◌*◌, ◌/◌, ◌≤◌, max, ◌≡◌, Bool, true, ◌&&◌, cond, List, [], ◌∷◌, ◌++◌, eqb, length, set, take, drop, Float}
use Rattle.lists.specs.Every.{all}
use Rattle.lists.specs.Rows.{over}
use Rattle.lists.specs.Select.{each}
use Rattle.tables.specs.View.{Tables, word, mark, part, rows, lane_words, boundary_words, stop_line_words, crosswalk_words}
use Rattle.tables.specs.Formed.{Span, span_at, spans, counted, stored, all_clear}
use Rattle.apart.specs.Marks.{within}
use Rattle.tables.specs.Columns.{boundary_start, crosswalk_left_start, crosswalk_right_start, lane_centerline, lane_centerline_start, row_count, stop_line_start}
use Rattle.rules.specs.Limits.{max_boundaries, max_crosswalks, max_lanes, max_stop_lines}

-- ---- lines one after another

-- the coordinates of lines that lie in `work`, in their order
unfoldable pub line_floats : List Float → List Span → List Float
line_floats work ss = each (λ s. part work s.start s.size) ss

-- how many points they have
unfoldable pub points_in : List Span → ℕ
points_in [] = 0
points_in (s ∷ ss) = s.size + points_in ss

-- ---- a column of lines in a table

-- In rows of `words` words: whether a row has a line, and the word that says where it starts. The next word is its length.
pub record Column : Type 0 where
  pub words : ℕ
  pub has : List ℕ → Bool
  pub start : ℕ

-- a line in every row
abbrev pub plain : ℕ → ℕ → Column
plain words start = record { words = words; has = λ w. true; start = start }

abbrev pub boundary_lines_of : Column
boundary_lines_of = plain boundary_words boundary_start

-- explicit centrelines, where the mark says that there is one
abbrev pub centerlines : Column
centerlines = record { words = lane_words; has = mark lane_centerline; start = lane_centerline_start }

abbrev pub stop_lines_of : Column
stop_lines_of = plain stop_line_words stop_line_start

abbrev pub left_edges_of : Column
left_edges_of = plain crosswalk_words crosswalk_left_start

abbrev pub right_edges_of : Column
right_edges_of = plain crosswalk_words crosswalk_right_start

-- a row's line, if it has one
abbrev pub line_of : Column → List ℕ → List Span
line_of k w = cond (k.has w) (span_at k.start w ∷ []) []

-- the lines of a table's column
unfoldable pub column_lines : Column → List ℕ → List Span
column_lines k t = each (λ s. s) (rows k.words (line_of k) t)

-- a row whose line starts at `at`; one without a line stays
abbrev pub moved : Column → ℕ → List ℕ → List ℕ
moved k at w = cond (k.has w) (set w k.start at) w

-- n rows whose lines follow one another from `at` on; what lies behind the rows stays
unfoldable pub moves : Column → ℕ → ℕ → List ℕ → List ℕ
moves k zero at w = w
moves k (suc n) at w = let r = take k.words w in moved k at r ++ moves k n (at + points_in (line_of k r)) (drop k.words w)

-- a table whose lines follow one another from `at` on
unfoldable pub laid_from : ℕ → Column → List ℕ → List ℕ
laid_from at k t = take 1 t ++ moves k (word row_count t) at (drop 1 t)

-- ---- all lines

-- All lines of the new map are laid out anew, one after another from point 0: boundaries, centrelines, stop lines, crosswalks' left edges, their
-- right edges. The coordinates are the lines in order, then what was there.
unfoldable pub gathered : List Float → Tables → Tables
gathered work t =
    let centers = points_in (column_lines boundary_lines_of t.boundaries) in
    let stops = centers + points_in (column_lines centerlines t.lanes) in
    let lefts = stops + points_in (column_lines stop_lines_of t.stop_lines) in
    let rights = lefts + points_in (column_lines left_edges_of t.crosswalks) in
    record {
      lanes = laid_from centers centerlines t.lanes;
      boundaries = laid_from 0 boundary_lines_of t.boundaries;
      roads = t.roads;
      junctions = t.junctions;
      rules = t.rules;
      stop_lines = laid_from stops stop_lines_of t.stop_lines;
      crosswalks = laid_from rights right_edges_of (laid_from lefts left_edges_of t.crosswalks);
      coordinates = over t.coordinates 0 (line_floats work (spans t));
    }

-- the lines of a map laid out anew from where they lie
unfoldable pub laid_out : Tables → Tables
laid_out t = gathered t.coordinates t

-- Coordinates up to point `reach`, and behind them the lines that an edit has drawn: what rows point into before a layout.
abbrev pub sourced : ℕ → List Float → List Float → List Float
sourced reach c drawn = take (reach * 3) c ++ drawn

-- the same rows, pointing into other coordinates
abbrev pub pointing : List Float → Tables → Tables
pointing c t =
    record {
      lanes = t.lanes;
      boundaries = t.boundaries;
      roads = t.roads;
      junctions = t.junctions;
      rules = t.rules;
      stop_lines = t.stop_lines;
      crosswalks = t.crosswalks;
      coordinates = c;
    }

-- ---- what the functions are lent, and what they ask of it

-- the tables that have lines, and the coordinates; the others have no part in the layout
abbrev pub line_tables : List ℕ → List ℕ → List ℕ → List ℕ → List Float → Tables
line_tables lanes boundaries stops crosswalks coordinates =
    record { lanes = lanes; boundaries = boundaries; roads = []; junctions = []; rules = []; stop_lines = stops; crosswalks = crosswalks; coordinates = coordinates }

-- the tables with lines keep their counts
unfoldable pub counted_lines : Tables → Bool
counted_lines t = counted max_lanes lane_words t.lanes && counted max_boundaries boundary_words t.boundaries && counted max_stop_lines stop_line_words t.stop_lines && counted max_crosswalks crosswalk_words t.crosswalks

-- counts are kept, every line lies in `work`, and the coordinates have room for all
pub record Gatherable (work : List Float) (t : Tables) : Type 0 where
  pub counts : counted_lines t ≡ true
  pub fits : all (within (length work / 3)) (spans t) ≡ true
  pub room : points_in (spans t) * 3 ≤ length t.coordinates

-- what `formed` says of the lines: counts are kept, each line is stored, no two share a point
unfoldable pub lines_formed : Tables → Bool
lines_formed t = counted_lines t && all (stored t.coordinates) (spans t) && all_clear (spans t)

-- the point behind a line; an empty line has none
abbrev pub end_of : Span → ℕ
end_of s = cond (eqb s.size 0) 0 (s.start + s.size)

-- the point behind the last that a line has
unfoldable pub last_point : List Span → ℕ
last_point [] = 0
last_point (s ∷ ss) = max (end_of s) (last_point ss)
