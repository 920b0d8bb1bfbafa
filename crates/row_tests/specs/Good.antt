-- What the test of soundness asks of each row, in one pass over a table. Nothing above `sound` rests on this page: its contract names
-- `sound_tables` alone.
use Rattle.std.specs.Prelude.{ℕ, suc, ◌-◌, max, Bool, true, not, ◌&&◌, ◌||◌, cond, List, eqb, leb, ltb, Float}
use Rattle.lists.specs.Every.{all}
use Rattle.lists.specs.Select.{ascending, distinct}
use Rattle.geometry.specs.Point.{in_reach}
use Rattle.polyline.specs.Polyline.{points}
use Rattle.rules.specs.Sound.{last_counter, has_content, stop_lines_fit}
use Rattle.tables.specs.View.{word, mark, ids_at, part, rows}
use Rattle.tables.specs.Formed.{Span, span_at, stored, lane_formed, rule_formed}
use Rattle.tables.specs.Columns.{boundary_attributes, boundary_kind, boundary_start, crosswalk_attributes, crosswalk_left_start, crosswalk_outline, crosswalk_right_start, junction_attributes, junction_lanes_at, junction_name, junction_outline, lane_attributes, lane_centerline, lane_centerline_start, lane_kind, lane_left, lane_right, lane_turn, left_slot, predecessors_at, right_slot, road_attributes, road_lanes_at, road_name, row_id, rule_attributes, rule_content, rule_controlled_at, rule_crosswalk, rule_kind, rule_lanes_at, rule_priority_at, rule_stop_lines_at, rule_yielding_at, stop_line_attributes, stop_line_start, successors_at}
use Rattle.rules.specs.Limits.{crosswalk_rule, handle_width, last_boundary_kind, last_lane_kind, last_rule_kind, last_turn, max_ids, max_line_points, other_rule, right_of_way}

-- the largest id that the counter allows in a map
abbrev pub largest_id : ℕ → ℕ
largest_id counter = cond (eqb counter last_counter) last_counter (max counter 1 - 1)

-- a line in the store, of at most 256 points, each within reach
unfoldable pub line_good : List Float → Span → Bool
line_good c s = stored c s && leb s.size max_line_points && all in_reach (points (part c s.start s.size))

abbrev pub ids_good : ℕ → List ℕ → Bool
ids_good most ids = all (λ i. leb i most) ids

-- a list of lanes: ids that may be named and, where that is asked, none twice
abbrev pub lanes_good : Bool → ℕ → List ℕ → Bool
lanes_good once most ids = ids_good most ids && (not once || distinct ids)

abbrev pub slot_good : ℕ → ℕ → List ℕ → Bool
slot_good most k w = eqb (word k w) 0 || leb (word (suc k) w) most

abbrev pub handle_good : ℕ → Bool
handle_good h = ltb h handle_width

unfoldable pub lane_numbers : ℕ → List ℕ → Bool
lane_numbers most w =
    leb (word lane_kind w) last_lane_kind
    && leb (word lane_turn w) last_turn
    && handle_good (word lane_attributes w)
    && leb (word row_id w) most
    && leb (word lane_left w) most
    && leb (word lane_right w) most
    && slot_good most left_slot w
    && slot_good most right_slot w

unfoldable pub links_good : ℕ → List ℕ → Bool
links_good most ids = ascending ids && ids_good most ids

unfoldable pub lane_good : ℕ → List Float → List ℕ → Bool
lane_good most c w =
    lane_formed w && lane_numbers most w && links_good most (ids_at predecessors_at w) && links_good most (ids_at successors_at w) && (not (mark lane_centerline w) || line_good c (span_at lane_centerline_start w))

unfoldable pub boundary_good : ℕ → List Float → List ℕ → Bool
boundary_good most c w = leb (word row_id w) most && leb (word boundary_kind w) last_boundary_kind && handle_good (word boundary_attributes w) && line_good c (span_at boundary_start w)

unfoldable pub road_good : ℕ → List ℕ → Bool
road_good most w = leb (word row_id w) most && handle_good (word road_name w) && handle_good (word road_attributes w) && leb (word road_lanes_at w) max_ids && lanes_good true most (ids_at road_lanes_at w)

unfoldable pub junction_good : ℕ → List ℕ → Bool
junction_good most w =
    leb (word row_id w) most && handle_good (word junction_name w) && handle_good (word junction_outline w) && handle_good (word junction_attributes w) && leb (word junction_lanes_at w) max_ids && lanes_good true most (ids_at junction_lanes_at w)

-- a rule's numbers; its crosswalk is named by kind 4 alone, its stop lines are counted by its kind
unfoldable pub rule_numbers : ℕ → List ℕ → Bool
rule_numbers most w =
    leb (word row_id w) most
    && leb (word rule_kind w) last_rule_kind
    && (not (has_content (word rule_kind w)) || handle_good (word rule_content w))
    && handle_good (word rule_attributes w)
    && (not (eqb (word rule_kind w) crosswalk_rule) || leb (word rule_crosswalk w) most)
    && (eqb (word rule_kind w) other_rule || stop_lines_fit (word rule_kind w) (word rule_stop_lines_at w))

-- the lists that its kind has; `once` asks that no lane stands twice in one
unfoldable pub rule_lists : Bool → ℕ → List ℕ → Bool
rule_lists once most w =
    lanes_good once most (ids_at rule_lanes_at w)
    && ids_good most (ids_at rule_controlled_at w)
    && (eqb (word rule_kind w) other_rule || ids_good most (ids_at rule_stop_lines_at w))
    && (not (eqb (word rule_kind w) right_of_way) || (lanes_good once most (ids_at rule_priority_at w) && lanes_good once most (ids_at rule_yielding_at w)))

unfoldable pub rule_good : ℕ → List ℕ → Bool
rule_good most w = rule_formed w && rule_numbers most w && rule_lists true most w

unfoldable pub stop_line_good : ℕ → List Float → List ℕ → Bool
stop_line_good most c w = leb (word row_id w) most && handle_good (word stop_line_attributes w) && line_good c (span_at stop_line_start w)

unfoldable pub crosswalk_good : ℕ → List Float → List ℕ → Bool
crosswalk_good most c w =
    leb (word row_id w) most && handle_good (word crosswalk_outline w) && handle_good (word crosswalk_attributes w) && line_good c (span_at crosswalk_left_start w) && line_good c (span_at crosswalk_right_start w)

-- every row of a table passes
unfoldable pub all_rows : ℕ → (List ℕ → Bool) → List ℕ → Bool
all_rows s good t = all (λ b. b) (rows s good t)
