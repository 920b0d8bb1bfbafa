-- Whether the map after a split has room, as tests of numbers found before anything is written. Nothing that a host calls rests on this page; the laws of
-- split_limits tie it to `fits_room`.
use Rattle.std.specs.Prelude.{◌≡◌, ℕ, zero, suc, ◌+◌, ◌*◌, ◌≤◌, Bool, true, false, ◌&&◌, cond, List, [], ◌∷◌, eqb, leb, length, get_or}
use Rattle.lists.specs.Every.{all}
use Rattle.lists.specs.Select.{ascending, has, keep}
use Rattle.rules.specs.Limits.{max_boundaries, max_crosswalks, max_ids, max_lanes, max_line_points, max_rules, max_stop_lines, right_of_way}
use Rattle.tables.specs.View.{word, mark, ids_at, rows}
use Rattle.tables.specs.Formed.{counted, rule_formed}
use Rattle.tables.specs.Columns.{boundary_size, boundary_start, boundary_words, crosswalk_left_start, crosswalk_right_start, crosswalk_words, lane_centerline, lane_centerline_size, lane_words, row_count, rule_kind, rule_lanes_at, rule_priority_at, rule_words, rule_yielding_at, stop_line_start, stop_line_words}
use Rattle.row_tests.specs.Good.{all_rows}
use Rattle.lookup.specs.Lookup.{all_short}
use Rattle.room.specs.Room.{column_points}
use Rattle.split_plan.specs.Placing.{picked, marked_rows}

-- ---- points

-- of n measured lines from number j on: both pieces' points, and whether each piece has at most 256
unfoldable pub pieces_fit : List ℕ → ℕ → ℕ → Bool
pieces_fit lines j zero = true
pieces_fit lines j (suc n) = leb (word (j * 3 + 1) lines) max_line_points && (leb (word (j * 3 + 2) lines) max_line_points && pieces_fit lines (suc j) n)

abbrev pub both_points : List ℕ → ℕ → ℕ
both_points lines j = word (j * 3 + 1) lines + word (j * 3 + 2) lines

-- of boundaries: a cut one that keeps its id has its first piece's points in place of its own
abbrev pub kept_points : List ℕ → ℕ → List ℕ → ℕ
kept_points pieces j w = cond (eqb (word (j * 3 + 1) pieces) (word (j * 3) pieces)) 0 (word boundary_size w)

unfoldable pub boundary_points : List ℕ → List ℕ → ℕ → List Bool → List (List ℕ) → ℕ
boundary_points pieces lines j [] ws = 0
boundary_points pieces lines j (b ∷ bs) [] = 0
boundary_points pieces lines j (b ∷ bs) (w ∷ ws) =
    cond b (kept_points pieces j w + both_points lines j + boundary_points pieces lines (suc j) bs ws) (word boundary_size w + boundary_points pieces lines j bs ws)

-- of explicit centrelines: a cut lane's has its pieces' points
abbrev pub center_points : List ℕ → ℕ
center_points w = cond (mark lane_centerline w) (word lane_centerline_size w) 0

unfoldable pub lane_points : List ℕ → ℕ → List Bool → List (List ℕ) → ℕ
lane_points centers r [] ws = 0
lane_points centers r (b ∷ bs) [] = 0
lane_points centers r (b ∷ bs) (w ∷ ws) = cond b (both_points centers r + lane_points centers (suc r) bs ws) (center_points w + lane_points centers r bs ws)

-- all of them
unfoldable pub points_after : List ℕ → List ℕ → List ℕ → List Bool → List Bool → List ℕ → List ℕ → List ℕ → List ℕ → ℕ
points_after pieces lines centers marks seen lanes boundaries stops crosswalks =
    boundary_points pieces lines 0 marks (rows boundary_words (λ w. w) boundaries)
    + lane_points centers 0 seen (rows lane_words (λ w. w) lanes)
    + column_points stop_line_words (stop_line_start + 1) stops
    + (column_points crosswalk_words (crosswalk_left_start + 1) crosswalks + column_points crosswalk_words (crosswalk_right_start + 1) crosswalks)

-- ---- lists

-- a list with a place for the second half of every cut lane that it names
abbrev pub list_fits : List ℕ → ℕ → List ℕ → Bool
list_fits cut k w = leb (word k w + length (keep (λ i. has i cut) (ids_at k w))) max_ids

-- how many cut lanes stand in a list
abbrev pub named_of : List ℕ → List ℕ → ℕ
named_of cut ids = length (keep (λ i. has i ids) cut)

-- a rule's own lanes gain second halves where it has no anchor, one of each
abbrev pub own_fits : Bool → List ℕ → List ℕ → Bool
own_fits anchored cut w = cond anchored true (leb (word rule_lanes_at w + named_of cut (ids_at rule_lanes_at w)) max_ids)

abbrev pub rule_fits : Bool → List ℕ → List ℕ → Bool
rule_fits anchored cut w = own_fits anchored cut w && cond (eqb (word rule_kind w) right_of_way) (list_fits cut rule_priority_at w && list_fits cut rule_yielding_at w) true

unfoldable pub rules_fit : List Bool → List ℕ → ℕ → List (List ℕ) → Bool
rules_fit anchored cut i [] = true
rules_fit anchored cut i (w ∷ ws) = rule_fits (get_or anchored i false) cut w && rules_fit anchored cut (suc i) ws

-- ---- what is asked

-- of the boundaries: lines short, marks there, and as many pieces and measures as marks
pub record PointsOf (pieces lines : List ℕ) (marks : List Bool) (boundaries : List ℕ) : Type 0 where
  pub counts : counted max_boundaries boundary_words boundaries ≡ true
  pub short : all_short boundary_words boundary_start boundaries ≡ true
  pub marks_there : word row_count boundaries ≤ length marks
  pub pieces_room : length (picked marks (rows boundary_words (λ w. w) boundaries)) * 3 ≤ length pieces
  pub lines_room : length (picked marks (rows boundary_words (λ w. w) boundaries)) * 3 ≤ length lines
  pub near : all (λ i. leb i 4194304) lines ≡ true

-- of the lanes
pub record CentersOf (centers : List ℕ) (seen : List Bool) (lanes : List ℕ) : Type 0 where
  pub counts : counted max_lanes lane_words lanes ≡ true
  pub short : all_rows lane_words (λ w. leb (center_points w) max_line_points) lanes ≡ true
  pub marks_there : word row_count lanes ≤ length seen
  pub centers_room : length (marked_rows seen lanes) * 3 ≤ length centers
  pub near : all (λ i. leb i 4194304) centers ≡ true

-- of all lines
pub record Counting (pieces lines centers : List ℕ) (marks seen : List Bool) (lanes boundaries stops crosswalks : List ℕ) : Type 0 where
  pub of_boundaries : PointsOf pieces lines marks boundaries
  pub of_lanes : CentersOf centers seen lanes
  pub stops_counted : counted max_stop_lines stop_line_words stops ≡ true
  pub crosswalks_counted : counted max_crosswalks crosswalk_words crosswalks ≡ true
  pub stops_short : all_short stop_line_words stop_line_start stops ≡ true
  pub lefts_short : all_short crosswalk_words crosswalk_left_start crosswalks ≡ true
  pub rights_short : all_short crosswalk_words crosswalk_right_start crosswalks ≡ true

-- of a table with lists of at most 64 ids at place k
pub record ListsOf (s k : ℕ) (cut t : List ℕ) : Type 0 where
  pub ascend : ascending cut ≡ true
  pub list : suc k + max_ids ≤ s
  pub narrow : s ≤ 512
  pub counts : counted 4096 s t ≡ true
  pub rows : all_rows s (λ w. leb (word k w) max_ids) t ≡ true

-- of the rules
pub record RulesOf (anchored : List Bool) (cut rules : List ℕ) : Type 0 where
  pub ascend : ascending cut ≡ true
  pub few : length cut ≤ max_lanes
  pub counts : counted max_rules rule_words rules ≡ true
  pub formed : all_rows rule_words rule_formed rules ≡ true
  pub anchors : word row_count rules ≤ length anchored
