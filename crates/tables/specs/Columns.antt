-- The columns of the tables' rows, by name: docs/READING.md has them as a table. Every row begins with its id, and a table with the count of its rows.
use Rattle.std.specs.Prelude.{ℕ}

abbrev pub row_count : ℕ
row_count = 0

abbrev pub row_id : ℕ
row_id = 0

-- ---- a lane

abbrev pub lane_words : ℕ
lane_words = 52

abbrev pub lane_kind : ℕ
lane_kind = 1

abbrev pub lane_left : ℕ
lane_left = 2

abbrev pub lane_left_reversed : ℕ
lane_left_reversed = 3

abbrev pub lane_right : ℕ
lane_right = 4

abbrev pub lane_right_reversed : ℕ
lane_right_reversed = 5

abbrev pub lane_centerline : ℕ
lane_centerline = 6

abbrev pub lane_centerline_start : ℕ
lane_centerline_start = 7

abbrev pub lane_centerline_size : ℕ
lane_centerline_size = 8

abbrev pub lane_speed : ℕ
lane_speed = 9

abbrev pub lane_speed_bits : ℕ
lane_speed_bits = 10

abbrev pub lane_one_way : ℕ
lane_one_way = 11

abbrev pub lane_turn : ℕ
lane_turn = 12

abbrev pub lane_attributes : ℕ
lane_attributes = 13

abbrev pub left_slot : ℕ
left_slot = 14

abbrev pub left_slot_lane : ℕ
left_slot_lane = 15

abbrev pub right_slot : ℕ
right_slot = 16

abbrev pub right_slot_lane : ℕ
right_slot_lane = 17

abbrev pub predecessors_at : ℕ
predecessors_at = 18

abbrev pub first_predecessor : ℕ
first_predecessor = 19

abbrev pub successors_at : ℕ
successors_at = 35

abbrev pub first_successor : ℕ
first_successor = 36

-- ---- a boundary

abbrev pub boundary_words : ℕ
boundary_words = 5

abbrev pub boundary_kind : ℕ
boundary_kind = 1

abbrev pub boundary_start : ℕ
boundary_start = 2

abbrev pub boundary_size : ℕ
boundary_size = 3

abbrev pub boundary_attributes : ℕ
boundary_attributes = 4

-- ---- a road

abbrev pub road_words : ℕ
road_words = 68

abbrev pub road_name : ℕ
road_name = 1

abbrev pub road_attributes : ℕ
road_attributes = 2

abbrev pub road_lanes_at : ℕ
road_lanes_at = 3

abbrev pub road_first_lane : ℕ
road_first_lane = 4

-- ---- a junction

abbrev pub junction_words : ℕ
junction_words = 69

abbrev pub junction_name : ℕ
junction_name = 1

abbrev pub junction_outline : ℕ
junction_outline = 2

abbrev pub junction_attributes : ℕ
junction_attributes = 3

abbrev pub junction_lanes_at : ℕ
junction_lanes_at = 4

abbrev pub junction_first_lane : ℕ
junction_first_lane = 5

-- ---- a rule

abbrev pub rule_words : ℕ
rule_words = 330

abbrev pub rule_kind : ℕ
rule_kind = 1

abbrev pub rule_content : ℕ
rule_content = 2

abbrev pub rule_attributes : ℕ
rule_attributes = 3

abbrev pub rule_crosswalk : ℕ
rule_crosswalk = 4

abbrev pub rule_lanes_at : ℕ
rule_lanes_at = 5

abbrev pub rule_first_lane : ℕ
rule_first_lane = 6

abbrev pub rule_controlled_at : ℕ
rule_controlled_at = 70

abbrev pub rule_first_controlled : ℕ
rule_first_controlled = 71

abbrev pub rule_stop_lines_at : ℕ
rule_stop_lines_at = 135

abbrev pub rule_priority_at : ℕ
rule_priority_at = 200

abbrev pub rule_yielding_at : ℕ
rule_yielding_at = 265

-- ---- a stop line

abbrev pub stop_line_words : ℕ
stop_line_words = 4

abbrev pub stop_line_start : ℕ
stop_line_start = 1

abbrev pub stop_line_size : ℕ
stop_line_size = 2

abbrev pub stop_line_attributes : ℕ
stop_line_attributes = 3

-- ---- a crosswalk

abbrev pub crosswalk_words : ℕ
crosswalk_words = 7

abbrev pub crosswalk_left_start : ℕ
crosswalk_left_start = 1

abbrev pub crosswalk_left_size : ℕ
crosswalk_left_size = 2

abbrev pub crosswalk_right_start : ℕ
crosswalk_right_start = 3

abbrev pub crosswalk_right_size : ℕ
crosswalk_right_size = 4

abbrev pub crosswalk_outline : ℕ
crosswalk_outline = 5

abbrev pub crosswalk_attributes : ℕ
crosswalk_attributes = 6
