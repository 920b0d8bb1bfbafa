-- What each clause asks of a row by itself. A row is asked in the order of the clauses, so a later clause may ask for an earlier one again: rows with lines
-- must pass whole (`lane_good` ..) from `Lines` on, where only a line is left to fail, rows of lists (`road_good` ..) at `Repeats`, where only a repeat is.
use Rattle.std.specs.Prelude.{ℕ, Bool, true, false, not, ◌&&◌, ◌||◌, List, eqb, leb, Float}
use Rattle.lists.specs.Select.{ascending}
use Rattle.rules.specs.Sound.{has_content, stop_lines_fit}
use Rattle.rules.specs.Limits.{last_boundary_kind, last_lane_kind, last_rule_kind, last_turn, max_ids, other_rule}
use Rattle.tables.specs.View.{word, ids_at}
use Rattle.tables.specs.Formed.{lane_formed, rule_formed}
use Rattle.tables.specs.Columns.{boundary_attributes, boundary_kind, boundary_words, crosswalk_attributes, crosswalk_outline, crosswalk_words, junction_attributes, junction_lanes_at, junction_name, junction_outline, junction_words, lane_attributes, lane_kind, lane_turn, lane_words, predecessors_at, road_attributes, road_lanes_at, road_name, road_words, row_id, rule_attributes, rule_content, rule_kind, rule_stop_lines_at, rule_words, stop_line_attributes, stop_line_words, successors_at}
use Rattle.row_tests.specs.Good.{handle_good, ids_good, lane_numbers, lane_good, boundary_good, road_good, junction_good, rule_numbers, rule_lists, rule_good, stop_line_good, crosswalk_good}
use Rattle.row_faults.specs.declared.Clause.{Clause}
use Rattle.row_faults.specs.declared.Clause.TheVariants.{Counts, Marks, Kinds, Ids, Names, Links, Repeats}
use Rattle.row_faults.specs.declared.Table.{Table}
use Rattle.row_faults.specs.declared.Table.TheVariants.{Lane, Boundary, Road, Junction, Rule, StopLine}

-- ---- lanes

unfoldable pub lane_kinds : List ℕ → Bool
lane_kinds w = leb (word lane_kind w) last_lane_kind && leb (word lane_turn w) last_turn && handle_good (word lane_attributes w)

-- every id in the row is at most `most`
unfoldable pub lane_named : ℕ → List ℕ → Bool
lane_named most w = lane_formed w && lane_numbers most w && (ids_good most (ids_at predecessors_at w) && ids_good most (ids_at successors_at w))

unfoldable pub links_rise : List ℕ → Bool
links_rise w = lane_formed w && (ascending (ids_at predecessors_at w) && ascending (ids_at successors_at w))

unfoldable pub lane_passes : Clause → ℕ → List Float → List ℕ → Bool
lane_passes Marks most c w = lane_formed w
lane_passes Kinds most c w = lane_kinds w
lane_passes Names most c w = lane_named most w
lane_passes Links most c w = links_rise w
lane_passes _ most c w = lane_good most c w

-- ---- rows with lines: a boundary, a stop line, a crosswalk

-- before `Lines` the kinds, then the id
abbrev pub drawn_passes : Clause → Bool → Bool → Bool → Bool
drawn_passes Counts kinds named good = named
drawn_passes Marks kinds named good = true
drawn_passes Kinds kinds named good = kinds
drawn_passes Ids kinds named good = named
drawn_passes Names kinds named good = named
drawn_passes Links kinds named good = named
drawn_passes _ kinds named good = good

unfoldable pub boundary_passes : Clause → ℕ → List Float → List ℕ → Bool
boundary_passes clause most c w = drawn_passes clause (leb (word boundary_kind w) last_boundary_kind && handle_good (word boundary_attributes w)) (leb (word row_id w) most) (boundary_good most c w)

unfoldable pub stop_line_passes : Clause → ℕ → List Float → List ℕ → Bool
stop_line_passes clause most c w = drawn_passes clause (handle_good (word stop_line_attributes w)) (leb (word row_id w) most) (stop_line_good most c w)

unfoldable pub crosswalk_passes : Clause → ℕ → List Float → List ℕ → Bool
crosswalk_passes clause most c w = drawn_passes clause (handle_good (word crosswalk_outline w) && handle_good (word crosswalk_attributes w)) (leb (word row_id w) most) (crosswalk_good most c w)

-- ---- rows of lists: a road, a junction, a rule

-- the kinds, then the ids, then whether a lane stands twice
abbrev pub listed_passes : Clause → Bool → Bool → Bool → Bool → Bool
listed_passes Marks formed kinds named good = formed
listed_passes Kinds formed kinds named good = kinds
listed_passes Repeats formed kinds named good = good
listed_passes _ formed kinds named good = named

-- the row's id and those in its list, counted at place k, are at most `most`
unfoldable pub list_named : ℕ → ℕ → List ℕ → Bool
list_named k most w = leb (word k w) max_ids && (leb (word row_id w) most && ids_good most (ids_at k w))

unfoldable pub road_passes : Clause → ℕ → List ℕ → Bool
road_passes clause most w =
    listed_passes clause (leb (word road_lanes_at w) max_ids) (handle_good (word road_name w) && handle_good (word road_attributes w)) (list_named road_lanes_at most w) (road_good most w)

unfoldable pub junction_passes : Clause → ℕ → List ℕ → Bool
junction_passes clause most w =
    listed_passes clause (leb (word junction_lanes_at w) max_ids) (handle_good (word junction_name w) && handle_good (word junction_outline w) && handle_good (word junction_attributes w)) (list_named junction_lanes_at most w) (junction_good most w)

unfoldable pub rule_kinds : List ℕ → Bool
rule_kinds w =
    leb (word rule_kind w) last_rule_kind
    && (not (has_content (word rule_kind w)) || handle_good (word rule_content w))
    && handle_good (word rule_attributes w)
    && (eqb (word rule_kind w) other_rule || stop_lines_fit (word rule_kind w) (word rule_stop_lines_at w))

unfoldable pub rule_named : ℕ → List ℕ → Bool
rule_named most w = rule_formed w && rule_numbers most w && rule_lists false most w

unfoldable pub rule_passes : Clause → ℕ → List ℕ → Bool
rule_passes clause most w = listed_passes clause (rule_formed w) (rule_kinds w) (rule_named most w) (rule_good most w)

-- ---- by table

-- the coordinates have no rows of their own, and count as the last table
unfoldable pub row_words : Table → ℕ
row_words Lane = lane_words
row_words Boundary = boundary_words
row_words Road = road_words
row_words Junction = junction_words
row_words Rule = rule_words
row_words StopLine = stop_line_words
row_words _ = crosswalk_words

unfoldable pub row_passes : Clause → Table → ℕ → List Float → List ℕ → Bool
row_passes clause Lane most c w = lane_passes clause most c w
row_passes clause Boundary most c w = boundary_passes clause most c w
row_passes clause Road most c w = road_passes clause most w
row_passes clause Junction most c w = junction_passes clause most w
row_passes clause Rule most c w = rule_passes clause most w
row_passes clause StopLine most c w = stop_line_passes clause most c w
row_passes clause _ most c w = crosswalk_passes clause most c w
