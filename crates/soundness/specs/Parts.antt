-- The parts of the test of soundness. Nothing above `sound` rests on this page: its contract names `sound_tables` alone.
use Rattle.std.specs.Prelude.{ℕ, Bool, ◌&&◌, List, drop}
use Rattle.lists.specs.Rows.{keys}
use Rattle.lists.specs.Select.{ascending}
use Rattle.tables.specs.View.{Tables, word}
use Rattle.tables.specs.Formed.{counted}
use Rattle.row_tests.specs.Good.{largest_id, all_rows, lane_good, boundary_good, road_good, junction_good, rule_good, stop_line_good, crosswalk_good}
use Rattle.tables.specs.Columns.{boundary_words, crosswalk_words, junction_words, lane_words, road_words, row_count, rule_words, stop_line_words}
use Rattle.rules.specs.Limits.{max_boundaries, max_crosswalks, max_junctions, max_lanes, max_roads, max_rules, max_stop_lines}

-- every table holds its count of rows
unfoldable pub all_counted : Tables → Bool
all_counted t =
    counted max_lanes lane_words t.lanes
    && counted max_boundaries boundary_words t.boundaries
    && counted max_roads road_words t.roads
    && counted max_junctions junction_words t.junctions
    && counted max_rules rule_words t.rules
    && counted max_stop_lines stop_line_words t.stop_lines
    && counted max_crosswalks crosswalk_words t.crosswalks

-- every row of every table passes
unfoldable pub all_good : ℕ → Tables → Bool
all_good most t =
    all_rows lane_words (lane_good most t.coordinates) t.lanes
    && all_rows boundary_words (boundary_good most t.coordinates) t.boundaries
    && all_rows road_words (road_good most) t.roads
    && all_rows junction_words (junction_good most) t.junctions
    && all_rows rule_words (rule_good most) t.rules
    && all_rows stop_line_words (stop_line_good most t.coordinates) t.stop_lines
    && all_rows crosswalk_words (crosswalk_good most t.coordinates) t.crosswalks

-- a table's ids ascend
abbrev pub ascends : ℕ → List ℕ → Bool
ascends s t = ascending (keys s (word row_count t) (drop 1 t))

unfoldable pub all_ascend : Tables → Bool
all_ascend t =
    ascends lane_words t.lanes
    && ascends boundary_words t.boundaries
    && ascends road_words t.roads
    && ascends junction_words t.junctions
    && ascends rule_words t.rules
    && ascends stop_line_words t.stop_lines
    && ascends crosswalk_words t.crosswalks

-- rows and ids, for the largest id that the counter allows
abbrev pub rows_sound : ℕ → Tables → Bool
rows_sound counter t = all_good (largest_id counter) t && all_ascend t
