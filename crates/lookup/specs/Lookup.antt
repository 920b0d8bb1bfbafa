-- Look-ups and derived geometry of lent tables: what their functions ask of a table, and the row that they find.
use Rattle.std.specs.Prelude.{◌≡◌, ℕ, suc, ◌+◌, ◌*◌, Bool, true, not, ◌&&◌, ◌||◌, List, [], eqb, leb, length, take, drop, Float, Option, None, Some}
use Rattle.lists.specs.Every.{all}
use Rattle.lists.specs.Rows.{keys, row_with}
use Rattle.lists.specs.Select.{keep, any, ascending}
use Rattle.polyline.specs.Polyline.{line_length}
use Rattle.entities.specs.Records.{Line, Map}
use Rattle.rules.specs.Names.{Side, Left, Right}
use Rattle.rules.specs.Map.{oriented_boundary, centerline}
use Rattle.tables.specs.View.{word, mark, rows, lane_of, boundary_of, stop_line_of, crosswalk_of}
use Rattle.tables.specs.Formed.{counted, span_at, stored}
use Rattle.tables.specs.Columns.{boundary_start, boundary_words, crosswalk_left_start, crosswalk_right_start, crosswalk_words, lane_centerline, lane_centerline_size, lane_centerline_start, lane_left, lane_right, lane_words, row_count, row_id, stop_line_start, stop_line_words}
use Rattle.rules.specs.Limits.{max_boundaries, max_crosswalks, max_lanes, max_line_points, max_stop_lines}

-- ---- tables in id order

-- a table of rows of s words, its ids ascending
unfoldable pub sorted_table : ℕ → ℕ → List ℕ → Bool
sorted_table limit s t = counted limit s t && ascending (keys s (word row_count t) (drop 1 t))

-- row j
abbrev pub row_at : ℕ → List ℕ → ℕ → List ℕ
row_at s t j = take s (drop (1 + j * s) t)

-- the row with an id
unfoldable pub place_of : ℕ → List ℕ → ℕ → Option ℕ
place_of s t id = row_with id (keys s (word row_count t) (drop 1 t))

-- ---- lines

-- the line at word k of every row lies among the points stored
unfoldable pub all_stored : ℕ → ℕ → List Float → List ℕ → Bool
all_stored s k c t = all (λ b. b) (rows s (λ w. stored c (span_at k w)) t)

-- it has at most 256 points
unfoldable pub all_short : ℕ → ℕ → List ℕ → Bool
all_short s k t = all (λ b. b) (rows s (λ w. leb (word (suc k) w) max_line_points) t)

-- how many points a line has, where there is one, and its points
abbrev pub count_of : Option Line → Option ℕ
count_of None = None
count_of (Some l) = Some (length l)

abbrev pub points_or : Option Line → Line
points_or None = []
points_or (Some l) = l

-- a map of boundaries alone: what lines along a lane are made of
abbrev pub drawn : List Float → List ℕ → Map
drawn c b = record { lanes = []; boundaries = rows boundary_words (boundary_of c) b; roads = []; junctions = []; rules = []; stop_lines = []; crosswalks = [] }

-- an explicit centreline, where a lane has one, lies among the points stored and has at most 256
unfoldable pub centers_stored : List Float → List ℕ → Bool
centers_stored c t = all (λ b. b) (rows lane_words (λ w. not (mark lane_centerline w) || (stored c (span_at lane_centerline_start w) && leb (word lane_centerline_size w) max_line_points)) t)

-- what the centreline of a lane asks of the tables
pub record Drawable (lanes boundaries : List ℕ) (c : List Float) : Type 0 where
  pub lanes_are_sorted : sorted_table max_lanes lane_words lanes ≡ true
  pub boundaries_are_sorted : sorted_table max_boundaries boundary_words boundaries ≡ true
  pub boundaries_stored : all_stored boundary_words boundary_start c boundaries ≡ true
  pub boundaries_short : all_short boundary_words boundary_start boundaries ≡ true
  pub centers_are_stored : centers_stored c lanes ≡ true

-- the length of a line, where there is one
abbrev pub length_of : Option Line → Option Float
length_of None = None
length_of (Some l) = Some (line_length l)

-- a boundary's line along the lane in row i, and the lane's centreline
abbrev pub side_line : List Float → List ℕ → List ℕ → ℕ → Side → Option Line
side_line c lanes boundaries i side = oriented_boundary (drawn c boundaries) side (lane_of c (row_at lane_words lanes i))

abbrev pub center_line : List Float → List ℕ → List ℕ → ℕ → Option Line
center_line c lanes boundaries i = centerline (drawn c boundaries) (lane_of c (row_at lane_words lanes i))

-- the word of a lane's row that names its boundary on a side; the mark behind it says whether the boundary is reversed
abbrev pub side_word : Side → ℕ
side_word Left = 2
side_word Right = 4

-- ---- who uses a boundary

-- a lane's row names boundary b on either side
abbrev pub row_uses : ℕ → List ℕ → Bool
row_uses b w = eqb (word lane_left w) b || eqb (word lane_right w) b

-- and is not the row of lane l
abbrev pub uses_besides : ℕ → ℕ → List ℕ → Bool
uses_besides b l w = not (eqb (word row_id w) l) && row_uses b w

-- a row of the table passes a test
unfoldable pub any_row : ℕ → (List ℕ → Bool) → List ℕ → Bool
any_row s test t = any (λ b. b) (rows s test t)

-- a lane of the table uses boundary b; one that is not lane l does
abbrev pub used : List ℕ → ℕ → Bool
used t b = any_row lane_words (row_uses b) t

abbrev pub used_besides : List ℕ → ℕ → ℕ → Bool
used_besides t b l = any_row lane_words (uses_besides b l) t

-- one that is neither of two lanes does
abbrev pub uses_outside : ℕ → ℕ → ℕ → List ℕ → Bool
uses_outside b one other w = not (eqb (word row_id w) one) && not (eqb (word row_id w) other) && row_uses b w

abbrev pub used_outside : List ℕ → ℕ → ℕ → ℕ → Bool
used_outside t b one other = any_row lane_words (uses_outside b one other) t

-- how many lanes of the table use boundary b
unfoldable pub users : List ℕ → ℕ → ℕ
users t b = length (keep (row_uses b) (rows lane_words (λ w. w) t))

-- ---- anchors of rules

-- a map of stop lines and crosswalks alone: what anchors are made of
abbrev pub crossed : List Float → List ℕ → List ℕ → Map
crossed c s x =
    record {
      lanes = [];
      boundaries = [];
      roads = [];
      junctions = [];
      rules = [];
      stop_lines = rows stop_line_words (stop_line_of c) s;
      crosswalks = rows crosswalk_words (crosswalk_of c) x;
    }

-- what an anchor asks of the tables
pub record Crossable (stops crosswalks : List ℕ) (c : List Float) : Type 0 where
  pub stops_sorted : sorted_table max_stop_lines stop_line_words stops ≡ true
  pub stops_stored : all_stored stop_line_words stop_line_start c stops ≡ true
  pub crosswalks_are_sorted : sorted_table max_crosswalks crosswalk_words crosswalks ≡ true
  pub lefts_stored : all_stored crosswalk_words crosswalk_left_start c crosswalks ≡ true
  pub rights_stored : all_stored crosswalk_words crosswalk_right_start c crosswalks ≡ true
