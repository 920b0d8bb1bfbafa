-- Which entities of the old map some edit of a job lists as modified: a mark for each row that the old tables may have, table behind table in the order of
-- kinds. Nothing that a host calls rests on these.
use Rattle.std.specs.Prelude.{ℕ, ◌+◌, Bool, ◌&&◌, cond, List, [], ◌∷◌, eqb, get_or, set, Option, None, Some}
use Rattle.lists.specs.Rows.{reads}
use Rattle.rules.specs.Limits.{max_lanes, max_boundaries, max_roads, max_junctions, max_rules, max_stop_lines, max_crosswalks}
use Rattle.tables.specs.View.{Tables, lane_words, boundary_words, road_words, junction_words, rule_words, stop_line_words, crosswalk_words}
use Rattle.lookup.specs.Lookup.{sorted_table, place_of}

-- ---- where the marks of a table begin

abbrev pub lane_marks : ℕ
lane_marks = 0

abbrev pub boundary_marks : ℕ
boundary_marks = 1024

abbrev pub road_marks : ℕ
road_marks = 5120

abbrev pub junction_marks : ℕ
junction_marks = 5376

abbrev pub stop_line_marks : ℕ
stop_line_marks = 5632

abbrev pub crosswalk_marks : ℕ
crosswalk_marks = 6144

abbrev pub rule_marks : ℕ
rule_marks = 6272

-- a mark for each lane, boundary, road, junction, stop line, crosswalk and rule that a map may have
abbrev pub all_marks : ℕ
all_marks = 6784

-- the tables in which marks are looked up: counted, their ids ascending
unfoldable pub sorted_tables : Tables → Bool
sorted_tables t =
    sorted_table max_lanes lane_words t.lanes
    && sorted_table max_boundaries boundary_words t.boundaries
    && sorted_table max_roads road_words t.roads
    && sorted_table max_junctions junction_words t.junctions
    && sorted_table max_stop_lines stop_line_words t.stop_lines
    && sorted_table max_crosswalks crosswalk_words t.crosswalks
    && sorted_table max_rules rule_words t.rules

-- ---- marks set

abbrev pub mark_at : ℕ → Option ℕ → List ℕ → List ℕ
mark_at first (Some r) ms = set ms (first + r) 1
mark_at first None ms = ms

-- the mark of the row with an id; an id that no row has has no mark
unfoldable pub mark_row : ℕ → ℕ → List ℕ → ℕ → List ℕ → List ℕ
mark_row words first table id ms = mark_at first (place_of words table id) ms

-- by the number of a kind; signals have no table
unfoldable pub mark_one : Tables → ℕ → ℕ → List ℕ → List ℕ
mark_one t kind id ms =
    cond (eqb kind 0) (mark_row lane_words lane_marks t.lanes id ms)
    (cond (eqb kind 1) (mark_row boundary_words boundary_marks t.boundaries id ms)
    (cond (eqb kind 2) (mark_row road_words road_marks t.roads id ms)
    (cond (eqb kind 3) (mark_row junction_words junction_marks t.junctions id ms)
    (cond (eqb kind 4) (mark_row stop_line_words stop_line_marks t.stop_lines id ms)
    (cond (eqb kind 6) (mark_row crosswalk_words crosswalk_marks t.crosswalks id ms)
    (cond (eqb kind 7) (mark_row rule_words rule_marks t.rules id ms) ms))))))

-- a kind's number and an id, n times
unfoldable pub pairs_in : ℕ → List ℕ → List (ℕ × ℕ)
pairs_in n w = reads 2 (λ r. (get_or r 0 0, get_or r 1 0)) n w

unfoldable pub mark_all : Tables → List (ℕ × ℕ) → List ℕ → List ℕ
mark_all t [] ms = ms
mark_all t (p ∷ ps) ms = mark_all t ps (mark_one t p.0 p.1 ms)
