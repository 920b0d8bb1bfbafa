-- How a map is written back when lines are made, joined or cut: split_lane and merge_lanes. All lines are laid out anew, one after another from
-- point 0: boundaries, centrelines, stop lines, crosswalks' left edges, their right edges. What is not used stays, as in `store`.
use Rattle.std.specs.Prelude.{ℕ, ◌+◌, List, [], ◌∷◌, map, length, Option, None, Some}
use Rattle.lists.specs.Rows.{over}
use Rattle.lists.specs.Select.{each}
use Rattle.polyline.specs.Polyline.{flat}
use Rattle.entities.specs.Records.{Line, Lane, Boundary, StopLine, Crosswalk, Map}
use Rattle.rules.specs.Sound.{optional_line, lines, total}
use Rattle.tables.specs.View.{Tables, lane_words, boundary_words, road_words, junction_words, rule_words, stop_line_words, crosswalk_words}
use Rattle.store.specs.Store.{lane_onto, boundary_onto, road_onto, junction_onto, rule_onto, store_rows}
use Rattle.tables.specs.Columns.{lane_centerline_start}

-- ---- where lines start

-- how many points lines have
abbrev pub points_of : List Line → ℕ
points_of cs = total (map length cs)

-- records whose lines follow one another from point `at` on, each with the point where its line starts
unfoldable pub placed : {R : Type 0} → (R → List Line) → ℕ → List R → List (ℕ × R)
placed line at [] = []
placed line at (r ∷ rs) = (at, r) ∷ placed line (at + points_of (line r)) rs

-- the words of a line: its start and its length
abbrev pub line_words : ℕ → Line → List ℕ
line_words at c = at ∷ length c ∷ []

-- ---- rows

-- a centreline's words, where there is one
abbrev pub center_onto : List ℕ → ℕ → Option Line → List ℕ
center_onto w at None = w
center_onto w at (Some c) = over w lane_centerline_start (line_words at c)

unfoldable pub lane_laid : List ℕ → ℕ × Lane → List ℕ
lane_laid w r = center_onto (lane_onto w r.1) r.0 r.1.centerline

unfoldable pub boundary_laid : List ℕ → ℕ × Boundary → List ℕ
boundary_laid w r = over (boundary_onto w r.1) 2 (line_words r.0 r.1.geometry)

-- of a stop line and a crosswalk nothing else changes
unfoldable pub stop_laid : List ℕ → ℕ × StopLine → List ℕ
stop_laid w r = over w 1 (line_words r.0 r.1.geometry)

-- the right edge's start, the left edge's, and the crosswalk
unfoldable pub crosswalk_laid : List ℕ → ℕ × (ℕ × Crosswalk) → List ℕ
crosswalk_laid w r = over (over w 1 (line_words r.1.0 r.1.1.left_edge)) 3 (line_words r.0 r.1.1.right_edge)

-- ---- the whole

unfoldable pub laid : Tables → Map → Tables
laid t m =
    let centers = points_of (map (λ b. b.geometry) m.boundaries) in
    let stops = centers + points_of (each (λ l. optional_line l.centerline) m.lanes) in
    let lefts = stops + points_of (map (λ s. s.geometry) m.stop_lines) in
    let rights = lefts + points_of (map (λ c. c.left_edge) m.crosswalks) in
    record {
      lanes = store_rows lane_words lane_laid (λ r. r.1.id) t.lanes (placed (λ l. optional_line l.centerline) centers m.lanes);
      boundaries = store_rows boundary_words boundary_laid (λ r. r.1.id) t.boundaries (placed (λ b. b.geometry ∷ []) 0 m.boundaries);
      roads = store_rows road_words road_onto (λ r. r.id) t.roads m.roads;
      junctions = store_rows junction_words junction_onto (λ j. j.id) t.junctions m.junctions;
      rules = store_rows rule_words rule_onto (λ r. r.id) t.rules m.rules;
      stop_lines = store_rows stop_line_words stop_laid (λ r. r.1.id) t.stop_lines (placed (λ s. s.geometry ∷ []) stops m.stop_lines);
      crosswalks =
          store_rows crosswalk_words crosswalk_laid (λ r. r.1.1.id) t.crosswalks
          (placed (λ r. r.1.right_edge ∷ []) rights (placed (λ c. c.left_edge ∷ []) lefts m.crosswalks));
      coordinates = over t.coordinates 0 (flat (each (λ c. c) (lines m)));
    }
