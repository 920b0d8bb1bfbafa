-- Rows of a table that name a lane, in words: which they are, and what they become when it goes or reads as another. Nothing that a host calls rests on this page.
use Rattle.std.specs.Prelude.{ℕ, suc, Bool, not, ◌&&◌, ◌||◌, cond, List, map, eqb, leb, length, None}
use Rattle.lists.specs.Select.{keep, has, without}
use Rattle.rules.specs.Names.{EntityKind, LaneKind, RoadKind, JunctionKind, RuleKind}
use Rattle.rules.specs.Merge.{replace_lane}
use Rattle.tables.specs.View.{word, mark, ids_at, rows}
use Rattle.tables.specs.Formed.{counted, lane_formed, rule_formed}
use Rattle.row_tests.specs.Good.{all_rows}
use Rattle.store.specs.Rows.{set_slot, set_list}
use Rattle.mentions.specs.declared.Rows.{Rows}
use Rattle.mentions.specs.declared.Rows.TheVariants.{Lanes, Roads, Junctions, Rules, Orphans}
use Rattle.tables.specs.Columns.{junction_lanes_at, junction_words, lane_words, left_slot, predecessors_at, right_slot, road_lanes_at, road_words, row_id, rule_kind, rule_lanes_at, rule_priority_at, rule_words, rule_yielding_at, successors_at}
use Rattle.rules.specs.Limits.{max_ids, max_junctions, max_lanes, max_roads, max_rules, right_of_way}

-- ---- tables

abbrev pub row_words : Rows → ℕ
row_words Lanes = lane_words
row_words Roads = road_words
row_words Junctions = junction_words
row_words Rules = rule_words
row_words Orphans = rule_words

abbrev pub row_limit : Rows → ℕ
row_limit Lanes = max_lanes
row_limit Roads = max_roads
row_limit Junctions = max_junctions
row_limit Rules = max_rules
row_limit Orphans = max_rules

abbrev pub row_kind : Rows → EntityKind
row_kind Lanes = LaneKind
row_kind Roads = RoadKind
row_kind Junctions = JunctionKind
row_kind Rules = RuleKind
row_kind Orphans = RuleKind

abbrev pub row_formed : Rows → List ℕ → Bool
row_formed Lanes w = lane_formed w
row_formed Roads w = leb (word road_lanes_at w) max_ids
row_formed Junctions w = leb (word junction_lanes_at w) max_ids
row_formed Rules w = rule_formed w
row_formed Orphans w = rule_formed w

-- a table that holds its rows, and the rows their lists
unfoldable pub table_formed : Rows → List ℕ → Bool
table_formed k t = counted (row_limit k) (row_words k) t && all_rows (row_words k) (row_formed k) t

-- ---- a row that names lane a

abbrev pub slot_names : ℕ → ℕ → List ℕ → Bool
slot_names a k w = mark k w && eqb (word (suc k) w) a

-- of another lane
abbrev pub lane_row_names : ℕ → List ℕ → Bool
lane_row_names a w = not (eqb (word row_id w) a) && ((has a (ids_at predecessors_at w) || has a (ids_at successors_at w)) || (slot_names a left_slot w || slot_names a right_slot w))

abbrev pub rule_row_names : ℕ → List ℕ → Bool
rule_row_names a w = has a (ids_at rule_lanes_at w) || (eqb (word rule_kind w) right_of_way && (has a (ids_at rule_priority_at w) || has a (ids_at rule_yielding_at w)))

unfoldable pub names_lane : Rows → ℕ → List ℕ → Bool
names_lane Lanes a w = lane_row_names a w
names_lane Roads a w = has a (ids_at road_lanes_at w)
names_lane Junctions a w = has a (ids_at junction_lanes_at w)
names_lane Rules a w = rule_row_names a w
names_lane Orphans a w = rule_row_names a w && eqb (length (without a (ids_at rule_lanes_at w))) 0

-- the ids of such rows
unfoldable pub naming : Rows → ℕ → List ℕ → List ℕ
naming k a t = map (word row_id) (keep (names_lane k a) (rows (row_words k) (λ w. w) t))

-- ---- a row with a list changed

abbrev pub change_at : (List ℕ → List ℕ) → ℕ → List ℕ → List ℕ
change_at f k w = set_list k (f (ids_at k w)) w

-- a rule's own lanes changed by f; of a right of way those that have priority and those that yield by g
abbrev pub rule_changes : (List ℕ → List ℕ) → (List ℕ → List ℕ) → List ℕ → List ℕ
rule_changes f g w = cond (eqb (word rule_kind w) right_of_way) (change_at g 265 (change_at g 200 (change_at f 5 w))) (change_at f 5 w)

-- ---- a row without lane a

abbrev pub forget_at : ℕ → ℕ → List ℕ → List ℕ
forget_at a k w = change_at (without a) k w

abbrev pub free_at : ℕ → ℕ → List ℕ → List ℕ
free_at a k w = cond (slot_names a k w) (set_slot k None w) w

abbrev pub lane_forgets : ℕ → List ℕ → List ℕ
lane_forgets a w = free_at a left_slot (free_at a right_slot (forget_at a predecessors_at (forget_at a successors_at w)))

abbrev pub rule_forgets : ℕ → List ℕ → List ℕ
rule_forgets a w = rule_changes (without a) (without a) w

unfoldable pub forgets : Rows → ℕ → List ℕ → List ℕ
forgets Lanes a w = lane_forgets a w
forgets Roads a w = forget_at a road_lanes_at w
forgets Junctions a w = forget_at a junction_lanes_at w
forgets Rules a w = rule_forgets a w
forgets Orphans a w = rule_forgets a w

-- ---- a rule in which lane b reads as lane a

abbrev pub replace_at : ℕ → ℕ → ℕ → List ℕ → List ℕ
replace_at a b k w = change_at (replace_lane a b) k w

unfoldable pub rule_replaces : ℕ → ℕ → List ℕ → List ℕ
rule_replaces a b w = rule_changes (replace_lane a b) (replace_lane a b) w
