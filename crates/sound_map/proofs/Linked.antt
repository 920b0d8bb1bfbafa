-- Lanes that passed as rows have links that ascend. Assumes nothing.
use mathlib.Core.Path.{◌≡◌}
use Prim.Native.Nat.{ℕ}
use mathlib.Core.Bool.{true, not, ◌&&◌, ◌||◌}
use mathlib.Core.List.{List}
use lib.Ieee.{Float}
use Rattle.lists.specs.Select.{ascending}
use Rattle.lists.proofs.Booleans.{and-fst, and-snd, and_both}
use Rattle.tables.specs.View.{Tables, mark, ids_at}
use Rattle.tables.specs.Formed.{span_at, lane_formed}
use Rattle.row_tests.specs.Good.{largest_id, ids_good, line_good, lane_numbers, links_good, all_rows, lane_good, boundary_good, road_good, junction_good, rule_good, stop_line_good, crosswalk_good}
use Rattle.link_tests.specs.Met.{links_ascend}
use Rattle.link_tests.proofs.Followed.{rows-each, rows_all}
use Rattle.soundness.specs.Parts.{all_good, all_ascend}

module _ (most : ℕ) (c : List Float) (w : List ℕ) (h : lane_good most c w ≡ true) where
  listed : (lane_formed w && lane_numbers most w && links_good most (ids_at 18 w) && links_good most (ids_at 35 w)) ≡ true
  unfolding lane_good
  listed = and-fst (lane_formed w && lane_numbers most w && links_good most (ids_at 18 w) && links_good most (ids_at 35 w)) (not (mark 6 w) || line_good c (span_at 7 w)) h

  up : (ids : List ℕ) → links_good most ids ≡ true → ascending ids ≡ true
  unfolding links_good
  up ids g = and-fst (ascending ids) (ids_good most ids) g

  links-up : (ascending (ids_at 18 w) && ascending (ids_at 35 w)) ≡ true
  links-up =
      let before = and-fst (lane_formed w && lane_numbers most w && links_good most (ids_at 18 w)) (links_good most (ids_at 35 w)) listed in
      and_both (ascending (ids_at 18 w)) (ascending (ids_at 35 w)) (up (ids_at 18 w) (and-snd (lane_formed w && lane_numbers most w) (links_good most (ids_at 18 w)) before))
      (up (ids_at 35 w) (and-snd (lane_formed w && lane_numbers most w && links_good most (ids_at 18 w)) (links_good most (ids_at 35 w)) listed))

module _ (most : ℕ) (t : Tables) where
  lanes-good : all_good most t ≡ true → all_rows 52 (lane_good most t.coordinates) t.lanes ≡ true
  unfolding all_good
  lanes-good g =
      let a = all_rows 52 (lane_good most t.coordinates) t.lanes in
      let b = all_rows 5 (boundary_good most t.coordinates) t.boundaries in
      let d = all_rows 68 (road_good most) t.roads in
      let e = all_rows 69 (junction_good most) t.junctions in
      let f = all_rows 330 (rule_good most) t.rules in
      let s = all_rows 4 (stop_line_good most t.coordinates) t.stop_lines in
      let x = all_rows 7 (crosswalk_good most t.coordinates) t.crosswalks in
      and-fst a b (and-fst (a && b) d (and-fst (a && b && d) e (and-fst (a && b && d && e) f (and-fst (a && b && d && e && f) s (and-fst (a && b && d && e && f && s) x g)))))

  links-good : all_good most t ≡ true → links_ascend t.lanes ≡ true
  unfolding links_ascend all_rows
  links-good g =
      rows_all t.lanes (λ w. ascending (ids_at 18 w) && ascending (ids_at 35 w))
      (λ i l. links-up most t.coordinates _ (rows-each t.lanes (lane_good most t.coordinates) (lanes-good g) i l))

-- what the pass over the links asks for
pub may-follow : (counter : ℕ) (t : Tables) → (all_good (largest_id counter) t && all_ascend t) ≡ true → links_ascend t.lanes ≡ true
may-follow counter t b = links-good (largest_id counter) t (and-fst (all_good (largest_id counter) t) (all_ascend t) b)
