-- The numbers of document 01, "The map": its limits, the ranges of its kinds, and the kinds of rules.
use Rattle.std.specs.Prelude.{ℕ, ◌^◌}

-- ---- "Up to 1,024 lanes, 4,096 boundaries, 256 roads, 256 junctions, 512 rules, 512 stop lines, 128 crosswalks; 256 points a line, 65,536 in all;
-- 16 links each way per lane; 64 ids in any other list."

abbrev pub max_lanes : ℕ
max_lanes = 1024

abbrev pub max_boundaries : ℕ
max_boundaries = 4096

abbrev pub max_roads : ℕ
max_roads = 256

abbrev pub max_junctions : ℕ
max_junctions = 256

abbrev pub max_rules : ℕ
max_rules = 512

abbrev pub max_stop_lines : ℕ
max_stop_lines = 512

abbrev pub max_crosswalks : ℕ
max_crosswalks = 128

abbrev pub max_line_points : ℕ
max_line_points = 256

abbrev pub max_points : ℕ
max_points = 65536

abbrev pub max_links : ℕ
max_links = 16

abbrev pub max_ids : ℕ
max_ids = 64

-- ---- "kinds are legal": the largest number of each

abbrev pub last_lane_kind : ℕ
last_lane_kind = 7

abbrev pub last_turn : ℕ
last_turn = 3

abbrev pub last_boundary_kind : ℕ
last_boundary_kind = 13

abbrev pub last_rule_kind : ℕ
last_rule_kind = 5

-- ---- the kinds of rules

abbrev pub traffic_sign : ℕ
traffic_sign = 1

abbrev pub stop_line_rule : ℕ
stop_line_rule = 2

abbrev pub right_of_way : ℕ
right_of_way = 3

abbrev pub crosswalk_rule : ℕ
crosswalk_rule = 4

abbrev pub other_rule : ℕ
other_rule = 5

-- ---- "16-bit host handles": one width for lanes, boundaries, roads, junctions and rules, one for stop lines and crosswalks

abbrev pub handle_width : ℕ
handle_width = 2 ^ 16

abbrev pub feature_handle_width : ℕ
feature_handle_width = 2 ^ 16
