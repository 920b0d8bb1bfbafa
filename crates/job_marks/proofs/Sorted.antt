-- Sorted tables: under a wider limit, and each of the seven. Assumes nothing.
use mathlib.Core.Path.{◌≡◌}
use mathlib.Core.Bool.{Bool, true, ◌&&◌}
use mathlib.Core.List.{List}
use Prim.Native.Nat.{ℕ, ◌+◌, ◌*◌, ◌≤◌}
use native.Mathlib.Omega.{arith}
use lib.Dec.{leb}
use lib.ListN.{length}
use borrow.Author.Tests.{le-leb}
use Rattle.lists.proofs.Booleans.{and_both, and-fst, and-snd}
use Rattle.rules.specs.Limits.{max_lanes, max_boundaries, max_roads, max_junctions, max_rules, max_stop_lines, max_crosswalks}
use Rattle.tables.specs.View.{Tables, word, lane_words, boundary_words, road_words, junction_words, rule_words, stop_line_words, crosswalk_words}
use Rattle.row_tests.proofs.Tables.{table-some}
use Rattle.lookup.specs.Lookup.{sorted_table}
use Rattle.lookup.proofs.Laws.{sorted-counted, sorted-ascends, sorted-few, sorted-room}
use Rattle.lookup.proofs.Good.{table-sorted}
use Rattle.job_marks.specs.Marks.{sorted_tables}

-- a table of few rows is one of at most so many more
pub sorted-wider : (limit most s : ℕ) (t : List ℕ) → limit ≤ most → sorted_table limit s t ≡ true → sorted_table most s t ≡ true
sorted-wider limit most s t l h =
    let few : word 0 t ≤ most = omega (arith, sorted-few limit s t h) in
    let front = and_both (leb 1 (length t)) (leb (word 0 t) most) (le-leb 1 (length t) (table-some limit s t (sorted-counted limit s t h))) (le-leb (word 0 t) most few) in
    table-sorted most s t (and_both (leb 1 (length t) && leb (word 0 t) most) (leb (1 + word 0 t * s) (length t)) front (le-leb (1 + word 0 t * s) (length t) (sorted-room limit s t h)))
    (sorted-ascends limit s t h)

-- ---- all seven

abbrev lanes_sorted : Tables → Bool
lanes_sorted t = sorted_table max_lanes lane_words t.lanes

abbrev boundaries_sorted : Tables → Bool
boundaries_sorted t = lanes_sorted t && sorted_table max_boundaries boundary_words t.boundaries

abbrev roads_sorted : Tables → Bool
roads_sorted t = boundaries_sorted t && sorted_table max_roads road_words t.roads

abbrev junctions_sorted : Tables → Bool
junctions_sorted t = roads_sorted t && sorted_table max_junctions junction_words t.junctions

abbrev stop_lines_sorted : Tables → Bool
stop_lines_sorted t = junctions_sorted t && sorted_table max_stop_lines stop_line_words t.stop_lines

abbrev crosswalks_sorted : Tables → Bool
crosswalks_sorted t = stop_lines_sorted t && sorted_table max_crosswalks crosswalk_words t.crosswalks

module _ (t : Tables) (h : sorted_tables t ≡ true) where
  upto-crosswalks : crosswalks_sorted t ≡ true
  unfolding sorted_tables
  upto-crosswalks = and-fst (crosswalks_sorted t) (sorted_table max_rules rule_words t.rules) h

  upto-stop-lines : stop_lines_sorted t ≡ true
  upto-stop-lines = and-fst (stop_lines_sorted t) (sorted_table max_crosswalks crosswalk_words t.crosswalks) upto-crosswalks

  upto-junctions : junctions_sorted t ≡ true
  upto-junctions = and-fst (junctions_sorted t) (sorted_table max_stop_lines stop_line_words t.stop_lines) upto-stop-lines

  upto-roads : roads_sorted t ≡ true
  upto-roads = and-fst (roads_sorted t) (sorted_table max_junctions junction_words t.junctions) upto-junctions

  upto-boundaries : boundaries_sorted t ≡ true
  upto-boundaries = and-fst (boundaries_sorted t) (sorted_table max_roads road_words t.roads) upto-roads

  pub lanes_are_sorted : sorted_table max_lanes lane_words t.lanes ≡ true
  lanes_are_sorted = and-fst (lanes_sorted t) (sorted_table max_boundaries boundary_words t.boundaries) upto-boundaries

  pub boundaries_are_sorted : sorted_table max_boundaries boundary_words t.boundaries ≡ true
  boundaries_are_sorted = and-snd (lanes_sorted t) (sorted_table max_boundaries boundary_words t.boundaries) upto-boundaries

  pub roads-sorted : sorted_table max_roads road_words t.roads ≡ true
  roads-sorted = and-snd (boundaries_sorted t) (sorted_table max_roads road_words t.roads) upto-roads

  pub junctions-sorted : sorted_table max_junctions junction_words t.junctions ≡ true
  junctions-sorted = and-snd (roads_sorted t) (sorted_table max_junctions junction_words t.junctions) upto-junctions

  pub stop-lines-sorted : sorted_table max_stop_lines stop_line_words t.stop_lines ≡ true
  stop-lines-sorted = and-snd (junctions_sorted t) (sorted_table max_stop_lines stop_line_words t.stop_lines) upto-stop-lines

  pub crosswalks_are_sorted : sorted_table max_crosswalks crosswalk_words t.crosswalks ≡ true
  crosswalks_are_sorted = and-snd (stop_lines_sorted t) (sorted_table max_crosswalks crosswalk_words t.crosswalks) upto-crosswalks

  pub rules-sorted : sorted_table max_rules rule_words t.rules ≡ true
  unfolding sorted_tables
  rules-sorted = and-snd (crosswalks_sorted t) (sorted_table max_rules rule_words t.rules) h

-- seven that are sorted
pub all-sorted : (t : Tables) → sorted_table max_lanes lane_words t.lanes ≡ true → sorted_table max_boundaries boundary_words t.boundaries ≡ true → sorted_table max_roads road_words t.roads ≡ true
    → sorted_table max_junctions junction_words t.junctions ≡ true → sorted_table max_stop_lines stop_line_words t.stop_lines ≡ true → sorted_table max_crosswalks crosswalk_words t.crosswalks ≡ true
    → sorted_table max_rules rule_words t.rules ≡ true → sorted_tables t ≡ true
unfolding sorted_tables
all-sorted t a b c d e f g = rw (a, b, c, d, e, f, g)
