-- Document 01, "The map", and document 02, (b): when a map with its counter is sound, and the room of a map.
-- What concerns the lent memory alone (counts against lent lengths, lines apart from each other) is in the crate `tables`.
use Rattle.std.specs.Prelude.{ℕ, ◌+◌, ◌-◌, ◌^◌, max, Bool, true, false, not, ◌&&◌, ◌||◌, cond, List, [], ◌∷◌, ◌++◌, map, eqb, leb, ltb, length, Option, None, Some}
use Rattle.lists.specs.Every.{all}
use Rattle.lists.specs.Select.{any, each, ascending, distinct}
use Rattle.geometry.specs.Point.{in_reach}
use Rattle.entities.specs.Types.{reciprocal_side}
use Rattle.rules.specs.Names.{Side, Left, Right, NeighborDirection, Same, Opposite, Neighbor}
use Rattle.entities.specs.Records.{Line, Lane, Rule, Map}
use Rattle.rules.specs.Limits.{max_lanes, max_boundaries, max_roads, max_junctions, max_rules, max_stop_lines, max_crosswalks, max_line_points, max_points, max_links, max_ids, last_lane_kind, last_turn, last_boundary_kind, last_rule_kind, traffic_sign, stop_line_rule, right_of_way, crosswalk_rule, other_rule}
pub use Rattle.rules.specs.Limits.{handle_width, feature_handle_width}
use Rattle.rules.specs.Map.{lane_ids, leads_to, comes_from, neighbor_on}

-- ---- every line and every id of a map

abbrev pub optional_line : Option Line → List Line
optional_line None = []
optional_line (Some c) = c ∷ []

-- in the order in which lines are laid out: boundaries, centrelines, stop lines, crosswalks' left edges, their right edges
unfoldable pub lines : Map → List Line
lines m =
    map (λ b. b.geometry) m.boundaries
    ++ (each (λ l. optional_line l.centerline) m.lanes
    ++ (map (λ s. s.geometry) m.stop_lines ++ (map (λ c. c.left_edge) m.crosswalks ++ map (λ c. c.right_edge) m.crosswalks)))

unfoldable pub total : List ℕ → ℕ
total [] = 0
total (n ∷ ns) = n + total ns

abbrev pub point_count : Map → ℕ
point_count m = total (map length (lines m))

abbrev pub optional_id : Option ℕ → List ℕ
optional_id None = []
optional_id (Some i) = i ∷ []

abbrev pub slot_id : Option Neighbor → List ℕ
slot_id None = []
slot_id (Some n) = n.lane ∷ []

abbrev pub lane_names : Lane → List ℕ
lane_names l =
    l.id ∷ l.left.boundary ∷ l.right.boundary ∷ slot_id l.left_neighbor ++ (slot_id l.right_neighbor ++ (l.predecessors ++ l.successors))

abbrev pub rule_names : Rule → List ℕ
rule_names r = r.id ∷ optional_id r.crosswalk ++ (r.lanes ++ (r.controlled_crosswalks ++ (r.stop_lines ++ (r.priority ++ r.yielding))))

-- "every id in the map, those of absent things named in it too"
unfoldable pub ids_named : Map → List ℕ
ids_named m =
    each lane_names m.lanes
    ++ (map (λ b. b.id) m.boundaries
    ++ (each (λ r. r.id ∷ r.lanes) m.roads
    ++ (each (λ j. j.id ∷ j.lanes) m.junctions
    ++ (each rule_names m.rules ++ (map (λ s. s.id) m.stop_lines ++ map (λ c. c.id) m.crosswalks)))))

-- ---- the clauses of soundness

-- "ids ascend strictly in each table"
unfoldable pub ids_ascend : Map → Bool
ids_ascend m =
    ascending (lane_ids m)
    && ascending (map (λ b. b.id) m.boundaries)
    && ascending (map (λ r. r.id) m.roads)
    && ascending (map (λ j. j.id) m.junctions)
    && ascending (map (λ r. r.id) m.rules)
    && ascending (map (λ s. s.id) m.stop_lines)
    && ascending (map (λ c. c.id) m.crosswalks)

-- The largest counter: no id is left.
abbrev pub last_counter : ℕ
last_counter = 2 ^ 64 - 1

-- the next id: a counter of 0 counts as 1, as in the Rust
abbrev pub next_id : ℕ → ℕ
next_id counter = max counter 1

-- "every id still to be allocated exceeds every id in the map": at the largest counter none is
unfoldable pub counter_above : ℕ → Map → Bool
counter_above counter m = eqb counter last_counter || all (λ i. ltb i (next_id counter)) (ids_named m)

-- "coordinates are finite within ±2^24"
unfoldable pub lines_in_reach : Map → Bool
lines_in_reach m = all (all in_reach) (lines m)

-- "kinds are legal"; a traffic light or a sign has at most one stop line, a stop-line rule exactly one, a rule of another kind none but for right of way and crosswalk
abbrev pub stop_lines_fit : ℕ → ℕ → Bool
stop_lines_fit kind n =
    cond (leb kind traffic_sign) (leb n 1) (cond (eqb kind stop_line_rule) (eqb n 1) (cond (eqb kind other_rule) (eqb n 0) true))

abbrev pub given : Option ℕ → Bool
given None = false
given (Some i) = true

-- traffic lights have signals, signs their data, rules of another kind that kind
abbrev pub has_content : ℕ → Bool
has_content kind = leb kind traffic_sign || eqb kind other_rule

abbrev pub rule_legal : Rule → Bool
rule_legal r =
    leb r.kind last_rule_kind
    && (has_content r.kind || eqb r.content 0)
    && stop_lines_fit r.kind (length r.stop_lines)
    && (eqb r.kind right_of_way || (eqb (length r.priority) 0 && eqb (length r.yielding) 0))
    && (cond (eqb r.kind crosswalk_rule) (given r.crosswalk) (not (given r.crosswalk)))

unfoldable pub kinds_legal : Map → Bool
kinds_legal m =
    all (λ l. leb l.kind last_lane_kind && leb l.turn_direction last_turn) m.lanes
    && all (λ b. leb b.kind last_boundary_kind) m.boundaries
    && all rule_legal m.rules

-- handles are numbers below their width, the bits of a speed limit below 2 ^ 64
abbrev pub speed_legal : Option ℕ → Bool
speed_legal None = true
speed_legal (Some b) = ltb b (2 ^ 64)

unfoldable pub handles_legal : Map → Bool
handles_legal m =
    all (λ l. ltb l.attributes handle_width && speed_legal l.speed_limit) m.lanes
    && all (λ b. ltb b.attributes handle_width) m.boundaries
    && all (λ r. ltb r.name handle_width && ltb r.attributes handle_width) m.roads
    && all (λ j. ltb j.name handle_width && ltb j.outline handle_width && ltb j.attributes handle_width) m.junctions
    && all (λ r. ltb r.content handle_width && ltb r.attributes handle_width) m.rules
    && all (λ s. ltb s.attributes feature_handle_width) m.stop_lines
    && all (λ c. ltb c.outline feature_handle_width && ltb c.attributes feature_handle_width) m.crosswalks

-- "link lists ascend strictly"
unfoldable pub links_ascend : Map → Bool
links_ascend m = all (λ l. ascending l.predecessors && ascending l.successors) m.lanes

-- "links and neighbours name present lanes and are reciprocal: b is a successor of a exactly when a is a predecessor of b"
unfoldable pub links_reciprocal : Map → Bool
links_reciprocal m =
    all (λ l. all (λ b. comes_from m l.id b) l.successors && all (λ a. leads_to m a l.id) l.predecessors) m.lanes

abbrev pub same_direction : NeighborDirection → NeighborDirection → Bool
same_direction Same Same = true
same_direction Same Opposite = false
same_direction Opposite Same = false
same_direction Opposite Opposite = true

-- a slot holds lane i with that direction
abbrev pub holds : Option Neighbor → ℕ → NeighborDirection → Bool
holds None i d = false
holds (Some n) i d = eqb n.lane i && same_direction n.direction d

-- lane i holds lane j, with direction d, in the slot on a side
unfoldable pub has_neighbor : Map → ℕ → Side → ℕ → NeighborDirection → Bool
has_neighbor m i side j d = any (λ l. eqb l.id i && holds (neighbor_on side l) j d) m.lanes

abbrev pub slot_returned : Map → ℕ → Side → Option Neighbor → Bool
slot_returned m i side None = true
slot_returned m i side (Some n) = has_neighbor m n.lane (reciprocal_side side n.direction) i n.direction

-- "a neighbour names the lane back, with the same direction mark, in the slot of the topology rule"
unfoldable pub neighbors_reciprocal : Map → Bool
neighbors_reciprocal m =
    all (λ l. slot_returned m l.id Left l.left_neighbor && slot_returned m l.id Right l.right_neighbor) m.lanes

-- Document 02, (b): "no lane stands twice in a road, a junction, or one list of a rule". A lane may stand in two lists.
unfoldable pub repeat_free : Map → Bool
repeat_free m =
    all (λ r. distinct r.lanes) m.roads
    && all (λ j. distinct j.lanes) m.junctions
    && all (λ r. distinct r.lanes && distinct r.priority && distinct r.yielding) m.rules

-- ---- "counts keep these limits"

abbrev pub id_lists : Rule → List (List ℕ)
id_lists r = r.lanes ∷ r.controlled_crosswalks ∷ r.stop_lines ∷ r.priority ∷ r.yielding ∷ []

unfoldable pub within_limits : Map → Bool
within_limits m =
    leb (length m.lanes) max_lanes
    && leb (length m.boundaries) max_boundaries
    && leb (length m.roads) max_roads
    && leb (length m.junctions) max_junctions
    && leb (length m.rules) max_rules
    && leb (length m.stop_lines) max_stop_lines
    && leb (length m.crosswalks) max_crosswalks
    && all (λ c. leb (length c) max_line_points) (lines m)
    && leb (point_count m) max_points
    && all (λ l. leb (length l.predecessors) max_links && leb (length l.successors) max_links) m.lanes
    && all (λ r. leb (length r.lanes) max_ids) m.roads
    && all (λ j. leb (length j.lanes) max_ids) m.junctions
    && all (λ r. all (λ ids. leb (length ids) max_ids) (id_lists r)) m.rules

-- "A map is sound when ..", and (b) of document 02: "A repeat now makes the map unsound"
unfoldable pub sound : ℕ → Map → Bool
sound counter m =
    within_limits m
    && ids_ascend m
    && counter_above counter m
    && lines_in_reach m
    && kinds_legal m
    && handles_legal m
    && links_ascend m
    && links_reciprocal m
    && neighbors_reciprocal m
    && repeat_free m

-- ---- the room that a host lends

-- rows of the two tables that grow, points in the store, and places in the four lists of an answer
pub record Room : Type 0 where
  pub lanes : ℕ
  pub boundaries : ℕ
  pub points : ℕ

pub record Lists : Type 0 where
  pub created : ℕ
  pub modified : ℕ
  pub deleted : ℕ
  pub warnings : ℕ

-- the finished map keeps the limits and the lent lengths
unfoldable pub fits_room : Room → Map → Bool
fits_room room m =
    within_limits m && leb (length m.lanes) room.lanes && leb (length m.boundaries) room.boundaries && leb (point_count m) room.points
