-- A map written back with its lines anywhere: the rows of `laid`, but each line starts at a point that is given with its record. A layout
-- (`gathered`) then moves the lines from an array of work into which the rows point: proofs/Gathers.antt says that this gives `laid`.
use Rattle.std.specs.Prelude.{ℕ, ◌+◌, ◌*◌, ◌≤◌, ◌≡◌, true, ◌&&◌, List, [], ◌∷◌, map, leb, Float, length}
use Rattle.lists.specs.Every.{all}
use Rattle.polyline.specs.Polyline.{flat}
use Rattle.entities.specs.Records.{Line, Lane, Boundary, Road, Junction, Rule, StopLine, Crosswalk, Map}
use Rattle.rules.specs.Limits.{max_lanes, max_boundaries, max_stop_lines, max_crosswalks, max_links}
use Rattle.rules.specs.Sound.{optional_line, point_count}
use Rattle.tables.specs.View.{Tables, part, lane_words, boundary_words, road_words, junction_words, rule_words, stop_line_words, crosswalk_words}
use Rattle.store.specs.Store.{road_onto, junction_onto, rule_onto, store_rows}
use Rattle.store.specs.Laid.{lane_laid, boundary_laid, stop_laid, crosswalk_laid}
use Rattle.layout.specs.Layout.{counted_lines}

-- records with the points where their lines start; of a crosswalk the right edge's start, the left edge's, and the crosswalk
pub record Starts : Type 0 where
  pub lanes : List (ℕ × Lane)
  pub boundaries : List (ℕ × Boundary)
  pub stop_lines : List (ℕ × StopLine)
  pub crosswalks : List (ℕ × (ℕ × Crosswalk))

unfoldable pub pointed : Tables → Starts → List Road → List Junction → List Rule → Tables
pointed t s roads junctions rules =
    record {
      lanes = store_rows lane_words lane_laid (λ r. r.1.id) t.lanes s.lanes;
      boundaries = store_rows boundary_words boundary_laid (λ r. r.1.id) t.boundaries s.boundaries;
      roads = store_rows road_words road_onto (λ r. r.id) t.roads roads;
      junctions = store_rows junction_words junction_onto (λ j. j.id) t.junctions junctions;
      rules = store_rows rule_words rule_onto (λ r. r.id) t.rules rules;
      stop_lines = store_rows stop_line_words stop_laid (λ r. r.1.id) t.stop_lines s.stop_lines;
      crosswalks = store_rows crosswalk_words crosswalk_laid (λ r. r.1.1.id) t.crosswalks s.crosswalks;
      coordinates = t.coordinates;
    }

-- ---- what a layout of such rows asks for

-- F of each element
unfoldable pub EachOf : {A : Type 0} → (A → Type 0) → List A → Type 0
EachOf F [] = ◌≡◌ {A = ℕ} 0 0
EachOf F (x ∷ xs) = F x × EachOf F xs

-- a line lies in `work` from point `at` on; an empty one lies anywhere
abbrev pub LineIn : List Float → ℕ → Line → Type 0
LineIn work at c = part work at (length c) ≡ flat c

-- the records are those of the map, and their lines lie in `work`
pub record Lies (work : List Float) (s : Starts) (m : Map) : Type 0 where
  pub lanes : map (λ r. r.1) s.lanes ≡ m.lanes
  pub boundaries : map (λ r. r.1) s.boundaries ≡ m.boundaries
  pub stop_lines : map (λ r. r.1) s.stop_lines ≡ m.stop_lines
  pub crosswalks : map (λ r. r.1.1) s.crosswalks ≡ m.crosswalks
  pub boundary_lines : EachOf (λ r. LineIn work r.0 r.1.geometry) s.boundaries
  pub centerlines : EachOf (λ r. EachOf (LineIn work r.0) (optional_line r.1.centerline)) s.lanes
  pub stops : EachOf (λ r. LineIn work r.0 r.1.geometry) s.stop_lines
  pub left_edges : EachOf (λ r. LineIn work r.1.0 r.1.1.left_edge) s.crosswalks
  pub right_edges : EachOf (λ r. LineIn work r.0 r.1.1.right_edge) s.crosswalks

-- the tables keep their counts, and have room for the map's records and points, which keep the limits
pub record HasRoom (t : Tables) (m : Map) : Type 0 where
  pub counts : counted_lines t ≡ true
  pub lanes : length m.lanes ≤ max_lanes
  pub boundaries : length m.boundaries ≤ max_boundaries
  pub stop_lines : length m.stop_lines ≤ max_stop_lines
  pub crosswalks : length m.crosswalks ≤ max_crosswalks
  pub lane_rows : 1 + length m.lanes * lane_words ≤ length t.lanes
  pub boundary_rows : 1 + length m.boundaries * boundary_words ≤ length t.boundaries
  pub stop_rows : 1 + length m.stop_lines * stop_line_words ≤ length t.stop_lines
  pub crosswalk_rows : 1 + length m.crosswalks * crosswalk_words ≤ length t.crosswalks
  pub links : all (λ l. leb (length l.predecessors) max_links && leb (length l.successors) max_links) m.lanes ≡ true
  pub points : point_count m * 3 ≤ length t.coordinates
