-- When the lent memory holds a map properly, and when the map that it holds is sound: document 01, "The map".
use Rattle.std.specs.Prelude.{ℕ, suc, ◌+◌, ◌*◌, ◌/◌, min, Bool, true, not, ◌&&◌, ◌||◌, cond, List, [], ◌∷◌, ◌++◌, eqb, leb, length, Float}
use Rattle.lists.specs.Every.{all}
use Rattle.lists.specs.Select.{each}
use Rattle.rules.specs.Sound.{sound}
use Rattle.tables.specs.View.{Tables, word, mark, rows, view, lane_words, boundary_words, road_words, junction_words, rule_words, stop_line_words, crosswalk_words}
use Rattle.tables.specs.Columns.{boundary_start, crosswalk_left_start, crosswalk_right_start, junction_lanes_at, lane_centerline, lane_centerline_start, lane_left_reversed, lane_one_way, lane_right_reversed, lane_speed, left_slot, predecessors_at, right_slot, road_lanes_at, row_count, rule_controlled_at, rule_kind, rule_lanes_at, rule_priority_at, rule_stop_lines_at, rule_yielding_at, stop_line_start, successors_at}
use Rattle.rules.specs.Limits.{max_boundaries, max_crosswalks, max_ids, max_junctions, max_lanes, max_links, max_points, max_roads, max_rules, max_stop_lines, other_rule, right_of_way}

-- ---- counts

-- "counts keep these limits and the lent lengths"
abbrev pub counted : ℕ → ℕ → List ℕ → Bool
counted limit s t = leb 1 (length t) && leb (word row_count t) limit && leb (1 + word row_count t * s) (length t)

-- ---- lines: a start and a length in points

pub record Span : Type 0 where
  pub start : ℕ
  pub size : ℕ

abbrev pub span_at : ℕ → List ℕ → Span
span_at k w = record { start = word k w; size = word (suc k) w }

-- "each line's points lie among those stored": at most 65,536, and those lent. An empty line has no point, wherever it starts.
abbrev pub stored : List Float → Span → Bool
stored c s = eqb s.size 0 || leb (s.start + s.size) (min max_points (length c / 3))

-- "no stored point belongs to two lines"
abbrev pub clear : Span → Span → Bool
clear s t = eqb s.size 0 || eqb t.size 0 || leb (s.start + s.size) t.start || leb (t.start + t.size) s.start

unfoldable pub all_clear : List Span → Bool
all_clear [] = true
all_clear (s ∷ ss) = all (clear s) ss && all_clear ss

abbrev pub center_span : List ℕ → List Span
center_span w = cond (mark lane_centerline w) (span_at lane_centerline_start w ∷ []) []

-- every line, in the order in which lines are laid out
unfoldable pub spans : Tables → List Span
spans t =
    rows boundary_words (span_at boundary_start) t.boundaries
    ++ (each (λ s. s) (rows lane_words center_span t.lanes)
    ++ (rows stop_line_words (span_at stop_line_start) t.stop_lines ++ (rows crosswalk_words (span_at crosswalk_left_start) t.crosswalks ++ rows crosswalk_words (span_at crosswalk_right_start) t.crosswalks)))

-- ---- marks and counts within rows

unfoldable pub lane_formed : List ℕ → Bool
lane_formed w =
    leb (word lane_left_reversed w) 1
    && leb (word lane_right_reversed w) 1
    && leb (word lane_centerline w) 1
    && leb (word lane_speed w) 1
    && leb (word lane_one_way w) 1
    && leb (word left_slot w) 2
    && leb (word right_slot w) 2
    && leb (word predecessors_at w) max_links
    && leb (word successors_at w) max_links

-- five lists of at most 64 ids; those that the kind does not have are not read
unfoldable pub rule_formed : List ℕ → Bool
rule_formed w =
    leb (word rule_lanes_at w) max_ids
    && leb (word rule_controlled_at w) max_ids
    && (eqb (word rule_kind w) other_rule || leb (word rule_stop_lines_at w) max_ids)
    && (not (eqb (word rule_kind w) right_of_way) || (leb (word rule_priority_at w) max_ids && leb (word rule_yielding_at w) max_ids))

-- the tables hold their rows, the rows their marks, the store its lines
unfoldable pub formed : Tables → Bool
formed t =
    counted max_lanes lane_words t.lanes
    && counted max_boundaries boundary_words t.boundaries
    && counted max_roads road_words t.roads
    && counted max_junctions junction_words t.junctions
    && counted max_rules rule_words t.rules
    && counted max_stop_lines stop_line_words t.stop_lines
    && counted max_crosswalks crosswalk_words t.crosswalks
    && all (λ b. b) (rows lane_words lane_formed t.lanes)
    && all (λ w. w) (rows road_words (λ w. leb (word road_lanes_at w) max_ids) t.roads)
    && all (λ w. w) (rows junction_words (λ w. leb (word junction_lanes_at w) max_ids) t.junctions)
    && all (λ w. w) (rows rule_words rule_formed t.rules)
    && all (stored t.coordinates) (spans t)
    && all_clear (spans t)

-- "A map is sound when ..", of lent memory
unfoldable pub sound_tables : ℕ → Tables → Bool
sound_tables counter t = formed t && sound counter (view t)
