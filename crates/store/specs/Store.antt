-- How a map is written back into lent memory. What is not used stays: a list's slots past its count, a table's words past its last row, the words of
-- a thing that is absent. A row that moves up when another goes takes all its words along.
use Rattle.std.specs.Prelude.{ℕ, ◌-◌, ◌/◌, Bool, true, false, not, cond, List, [], ◌∷◌, ◌++◌, map, eqb, length, take, drop, Option, None, Some}
use Rattle.lists.specs.Rows.{reads, over}
use Rattle.lists.specs.Select.{keep, each, has}
use Rattle.entities.specs.declared.Neighbor.{Neighbor}
use Rattle.entities.specs.declared.NeighborDirection.{NeighborDirection}
use Rattle.entities.specs.declared.NeighborDirection.TheVariants.{Same, Opposite}
use Rattle.entities.specs.Records.{Lane, Boundary, Road, Junction, Rule, Map}
use Rattle.rules.specs.Sound.{has_content, Room}
use Rattle.tables.specs.View.{Tables, word, lane_words, boundary_words, road_words, junction_words, rule_words}
use Rattle.tables.specs.Columns.{boundary_size, boundary_start, first_predecessor, first_successor, junction_first_lane, lane_centerline_size, lane_centerline_start, lane_speed_bits, left_slot_lane, right_slot_lane, road_first_lane, row_count, row_id, rule_content, rule_crosswalk, rule_first_controlled, rule_first_lane, rule_priority_at, rule_stop_lines_at, rule_yielding_at}
use Rattle.rules.specs.Limits.{other_rule, right_of_way}

-- rows of the two tables that grow, and points: what the lent lengths hold
abbrev pub room_of : Tables → Room
room_of t =
    record { lanes = (length t.lanes - 1) / lane_words; boundaries = (length t.boundaries - 1) / boundary_words; points = length t.coordinates / 3 }

-- ---- words of a row; `w` is the row that lies there

abbrev pub flag : Bool → ℕ
flag false = 0
flag true = 1

abbrev pub present : {A : Type 0} → Option A → ℕ
present None = 0
present (Some a) = 1

-- the number, or the word that is there
abbrev pub number_or : ℕ → Option ℕ → ℕ
number_or old None = old
number_or old (Some n) = n

-- 0 none, 1 same direction, 2 opposite
abbrev pub direction_mark : NeighborDirection → ℕ
direction_mark Same = 1
direction_mark Opposite = 2

abbrev pub slot_mark : Option Neighbor → ℕ
slot_mark None = 0
slot_mark (Some n) = direction_mark n.direction

abbrev pub slot_lane : ℕ → Option Neighbor → ℕ
slot_lane old None = old
slot_lane old (Some n) = n.lane

-- a count, and the ids over the slots
abbrev pub ids_onto : List ℕ → List ℕ → List ℕ
ids_onto slots ids = length ids ∷ over slots 0 ids

-- a list of 64 slots that the rule's kind has, or the words that are there
abbrev pub ids_or : Bool → List ℕ → List ℕ → List ℕ
ids_or true w ids = ids_onto (take 64 (drop 1 w)) ids
ids_or false w ids = take 65 w

-- ---- rows, column by column. Where a line lies is not the record's: its start and its length stay.

unfoldable pub lane_onto : List ℕ → Lane → List ℕ
lane_onto w l =
    l.id
    ∷ l.kind
    ∷ l.left.boundary
    ∷ flag l.left.reversed
    ∷ l.right.boundary
    ∷ flag l.right.reversed
    ∷ present l.centerline
    ∷ word lane_centerline_start w
    ∷ word lane_centerline_size w
    ∷ present l.speed_limit
    ∷ number_or (word lane_speed_bits w) l.speed_limit
    ∷ flag l.one_way
    ∷ l.turn_direction
    ∷ l.attributes
    ∷ slot_mark l.left_neighbor
    ∷ slot_lane (word left_slot_lane w) l.left_neighbor
    ∷ slot_mark l.right_neighbor
    ∷ slot_lane (word right_slot_lane w) l.right_neighbor
    ∷ ids_onto (take 16 (drop first_predecessor w)) l.predecessors ++ ids_onto (take 16 (drop first_successor w)) l.successors

unfoldable pub boundary_onto : List ℕ → Boundary → List ℕ
boundary_onto w b = b.id ∷ b.kind ∷ word boundary_start w ∷ word boundary_size w ∷ b.attributes ∷ []

unfoldable pub road_onto : List ℕ → Road → List ℕ
road_onto w r = r.id ∷ r.name ∷ r.attributes ∷ ids_onto (take 64 (drop road_first_lane w)) r.lanes

unfoldable pub junction_onto : List ℕ → Junction → List ℕ
junction_onto w j = j.id ∷ j.name ∷ j.outline ∷ j.attributes ∷ ids_onto (take 64 (drop junction_first_lane w)) j.lanes

unfoldable pub rule_onto : List ℕ → Rule → List ℕ
rule_onto w r =
    r.id
    ∷ r.kind
    ∷ cond (has_content r.kind) r.content (word rule_content w)
    ∷ r.attributes
    ∷ number_or (word rule_crosswalk w) r.crosswalk
    ∷ ids_onto (take 64 (drop rule_first_lane w)) r.lanes
    ++ (ids_onto (take 64 (drop rule_first_controlled w)) r.controlled_crosswalks
    ++ (ids_or (not (eqb r.kind other_rule)) (drop rule_stop_lines_at w) r.stop_lines
    ++ (ids_or (eqb r.kind right_of_way) (drop rule_priority_at w) r.priority ++ ids_or (eqb r.kind right_of_way) (drop rule_yielding_at w) r.yielding)))

-- ---- tables

-- records written over the rows from the front of w on
unfoldable pub writes : {R : Type 0} → ℕ → (List ℕ → R → List ℕ) → List ℕ → List R → List ℕ
writes s onto w [] = w
writes s onto w (r ∷ rs) = onto (take s w) r ++ writes s onto (drop s w) rs

-- the rows whose ids stay, with all their words, at the front of the n rows of w; what lies behind them stays
unfoldable pub packed : ℕ → List ℕ → ℕ → List ℕ → List ℕ
packed s ids n w = over w 0 (each (λ r. r) (keep (λ r. has (word row_id r) ids) (reads s (λ r. r) n w)))

-- a table with these records, of which `key` is the id
unfoldable pub store_rows : {R : Type 0} → ℕ → (List ℕ → R → List ℕ) → (R → ℕ) → List ℕ → List R → List ℕ
store_rows s onto key t rs = length rs ∷ writes s onto (packed s (map key rs) (word row_count t) (drop 1 t)) rs

-- a map written back, every line where it is; stop lines and crosswalks are not edited
unfoldable pub store : Tables → Map → Tables
store t m =
    record {
      lanes = store_rows lane_words lane_onto (λ l. l.id) t.lanes m.lanes;
      boundaries = store_rows boundary_words boundary_onto (λ b. b.id) t.boundaries m.boundaries;
      roads = store_rows road_words road_onto (λ r. r.id) t.roads m.roads;
      junctions = store_rows junction_words junction_onto (λ j. j.id) t.junctions m.junctions;
      rules = store_rows rule_words rule_onto (λ r. r.id) t.rules m.rules;
      stop_lines = t.stop_lines;
      crosswalks = t.crosswalks;
      coordinates = t.coordinates;
    }
