-- How the lent words and coordinates hold a map. A table's word 0 is its count; rows of a fixed length follow. Of a row only what is used is read:
-- not the slots past a list's count, nor the words of a thing that its mark says is absent, nor what a rule's kind does not have.
use Rattle.std.specs.Prelude.{ℕ, suc, ◌*◌, Bool, not, cond, List, [], eqb, get_or, take, drop, Float, Option, None, Some}
use Rattle.lists.specs.Rows.{reads}
use Rattle.polyline.specs.Polyline.{points}
use Rattle.entities.specs.declared.BoundaryRef.{BoundaryRef}
use Rattle.entities.specs.declared.Neighbor.{Neighbor}
use Rattle.entities.specs.Types.{same, opposing}
use Rattle.rules.specs.Sound.{has_content}
use Rattle.entities.specs.Records.{Line, Lane, Boundary, Road, Junction, Rule, StopLine, Crosswalk, Map}
use Rattle.tables.specs.Columns.{boundary_attributes, boundary_kind, boundary_start, crosswalk_attributes, crosswalk_left_start, crosswalk_outline, crosswalk_right_start, junction_attributes, junction_lanes_at, junction_name, junction_outline, lane_attributes, lane_centerline, lane_kind, lane_left, lane_one_way, lane_right, lane_speed, lane_turn, left_slot, predecessors_at, right_slot, road_attributes, road_lanes_at, road_name, row_count, row_id, rule_attributes, rule_content, rule_controlled_at, rule_crosswalk, rule_kind, rule_lanes_at, rule_priority_at, rule_stop_lines_at, rule_yielding_at, stop_line_attributes, stop_line_start, successors_at}
use Rattle.rules.specs.Limits.{crosswalk_rule, other_rule, right_of_way}
pub use Rattle.tables.specs.Columns.{lane_words, boundary_words, road_words, junction_words, rule_words, stop_line_words, crosswalk_words}

-- "Lent slices hold the tables."
pub record Tables : Type 0 where
  pub lanes : List ℕ
  pub boundaries : List ℕ
  pub roads : List ℕ
  pub junctions : List ℕ
  pub rules : List ℕ
  pub stop_lines : List ℕ
  pub crosswalks : List ℕ
  pub coordinates : List Float

-- ---- words of a row

abbrev pub word : ℕ → List ℕ → ℕ
word k w = get_or w k 0

-- a mark: 0 or 1
abbrev pub mark : ℕ → List ℕ → Bool
mark k w = not (eqb (word k w) 0)

-- a count and that many ids
abbrev pub ids_at : ℕ → List ℕ → List ℕ
ids_at k w = take (word k w) (drop (suc k) w)

-- a boundary's id and whether it is reversed
abbrev pub ref_at : ℕ → List ℕ → BoundaryRef
ref_at k w = record { boundary = word k w; reversed = mark (suc k) w }

-- a mark and a number
abbrev pub option_at : ℕ → List ℕ → Option ℕ
option_at k w = cond (mark k w) (Some (word (suc k) w)) None

-- 0 none, 1 same direction, 2 opposite; and the lane
abbrev pub slot_at : ℕ → List ℕ → Option Neighbor
slot_at k w = cond (eqb (word k w) 0) None (cond (eqb (word k w) 1) (Some (same (word (suc k) w))) (Some (opposing (word (suc k) w))))

-- "A stored line's points are handed back as their part of the coordinates." A start and a length, in points.
unfoldable pub part : List Float → ℕ → ℕ → List Float
part c start n = take (n * 3) (drop (start * 3) c)

abbrev pub line_at : List Float → ℕ → List ℕ → Line
line_at c k w = points (part c (word k w) (word (suc k) w))

-- a mark, a start and a length
abbrev pub option_line_at : List Float → ℕ → List ℕ → Option Line
option_line_at c k w = cond (mark k w) (Some (line_at c (suc k) w)) None

-- ---- rows, column by column

unfoldable pub lane_of : List Float → List ℕ → Lane
lane_of c w =
    record {
      id = word row_id w;
      kind = word lane_kind w;
      left = ref_at lane_left w;
      right = ref_at lane_right w;
      centerline = option_line_at c lane_centerline w;
      speed_limit = option_at lane_speed w;
      one_way = mark lane_one_way w;
      turn_direction = word lane_turn w;
      attributes = word lane_attributes w;
      left_neighbor = slot_at left_slot w;
      right_neighbor = slot_at right_slot w;
      predecessors = ids_at predecessors_at w;
      successors = ids_at successors_at w;
    }

unfoldable pub boundary_of : List Float → List ℕ → Boundary
boundary_of c w = record { id = word row_id w; kind = word boundary_kind w; geometry = line_at c boundary_start w; attributes = word boundary_attributes w }

unfoldable pub road_of : List ℕ → Road
road_of w = record { id = word row_id w; name = word road_name w; attributes = word road_attributes w; lanes = ids_at road_lanes_at w }

unfoldable pub junction_of : List ℕ → Junction
junction_of w = record { id = word row_id w; name = word junction_name w; outline = word junction_outline w; attributes = word junction_attributes w; lanes = ids_at junction_lanes_at w }

-- the list at k where the rule's kind has it
abbrev pub ids_where : Bool → ℕ → List ℕ → List ℕ
ids_where b k w = cond b (ids_at k w) []

unfoldable pub rule_of : List ℕ → Rule
rule_of w =
    record {
      id = word row_id w;
      kind = word rule_kind w;
      content = cond (has_content (word rule_kind w)) (word rule_content w) 0;
      attributes = word rule_attributes w;
      crosswalk = cond (eqb (word rule_kind w) crosswalk_rule) (Some (word rule_crosswalk w)) None;
      lanes = ids_at rule_lanes_at w;
      controlled_crosswalks = ids_at rule_controlled_at w;
      stop_lines = ids_where (not (eqb (word rule_kind w) other_rule)) rule_stop_lines_at w;
      priority = ids_where (eqb (word rule_kind w) right_of_way) rule_priority_at w;
      yielding = ids_where (eqb (word rule_kind w) right_of_way) rule_yielding_at w;
    }

unfoldable pub stop_line_of : List Float → List ℕ → StopLine
stop_line_of c w = record { id = word row_id w; geometry = line_at c stop_line_start w; attributes = word stop_line_attributes w }

unfoldable pub crosswalk_of : List Float → List ℕ → Crosswalk
crosswalk_of c w = record { id = word row_id w; left_edge = line_at c crosswalk_left_start w; right_edge = line_at c crosswalk_right_start w; outline = word crosswalk_outline w; attributes = word crosswalk_attributes w }

-- ---- tables

-- the rows of a table, each read by `dec`
unfoldable pub rows : {B : Type 0} → ℕ → (List ℕ → B) → List ℕ → List B
rows s dec t = reads s dec (word row_count t) (drop 1 t)

unfoldable pub view : Tables → Map
view t =
    record {
      lanes = rows lane_words (lane_of t.coordinates) t.lanes;
      boundaries = rows boundary_words (boundary_of t.coordinates) t.boundaries;
      roads = rows road_words road_of t.roads;
      junctions = rows junction_words junction_of t.junctions;
      rules = rows rule_words rule_of t.rules;
      stop_lines = rows stop_line_words (stop_line_of t.coordinates) t.stop_lines;
      crosswalks = rows crosswalk_words (crosswalk_of t.coordinates) t.crosswalks;
    }

-- slices as the tables that are lent
abbrev pub tables_of : List ℕ → List ℕ → List ℕ → List ℕ → List ℕ → List ℕ → List ℕ → List Float → Tables
tables_of lanes boundaries roads junctions rules stops crosswalks coordinates =
    record { lanes = lanes; boundaries = boundaries; roads = roads; junctions = junctions; rules = rules; stop_lines = stops; crosswalks = crosswalks; coordinates = coordinates }
