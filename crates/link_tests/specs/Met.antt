-- Links met in one pass over the lanes: each link finds its lane at the next place of the list that must name it. Nothing above `sound` rests on this page.
use Rattle.std.specs.Prelude.{ℕ, Bool, true, ◌&&◌, ◌≡◌, List, ◌++◌, map, eqb, ltb, length, get_or, take, drop}
use Rattle.lists.specs.Every.{all}
use Rattle.lists.specs.Rows.{keys}
use Rattle.lists.specs.Select.{keep, each, ascending}
use Rattle.tables.specs.View.{word, ids_at, rows}
use Rattle.tables.specs.Columns.{lane_words, predecessors_at, row_count, row_id, successors_at}
use Rattle.row_ids.specs.Listed.{Listed}
use Rattle.row_tests.specs.Returned.{searchable, lane_at, row_test}

-- every lane's links ascend
unfoldable pub links_ascend : List ℕ → Bool
links_ascend t = all (λ b. b) (rows lane_words (λ w. ascending (ids_at predecessors_at w) && ascending (ids_at successors_at w)) t)

-- the lanes' ids
abbrev pub lane_ids : List ℕ → List ℕ
lane_ids t = keys lane_words (word row_count t) (drop 1 t)

-- a lane table that can be searched, and its ids listed
pub record Indexed (t ids : List ℕ) : Type 0 where
  pub sorted : searchable t ≡ true
  pub long : length ids ≡ 1024
  pub listed : Listed (lane_ids t) ids

-- how often a list has a number
abbrev pub times : ℕ → List ℕ → ℕ
times b l = length (keep (eqb b) l)

-- how often it has each of some numbers
unfoldable pub tally : List ℕ → List ℕ → List ℕ
tally ks l = map (λ k. times k l) ks

-- the successors of the first i lanes, one list after the other
unfoldable pub named_before : List ℕ → ℕ → List ℕ
named_before t i = each (ids_at successors_at) (take i (rows lane_words (λ w. w) t))

-- how often each lane is named by the first i lanes, and by the first k links of the next
unfoldable pub cursors : List ℕ → ℕ → ℕ → List ℕ
cursors t i k = tally (lane_ids t) (named_before t i ++ take k (ids_at successors_at (lane_at t i)))

-- a list has a number at place c
unfoldable pub stands_at : ℕ → ℕ → List ℕ → Bool
stands_at c x l = ltb c (length l) && eqb (get_or l c 0) x

-- lane b is there, and its predecessors have lane i at the place that those before lane i leave to it
unfoldable pub link_met : List ℕ → ℕ → ℕ → Bool
link_met t i b = row_test (λ w. stands_at (times b (named_before t i)) (word row_id (lane_at t i)) (ids_at predecessors_at w)) t b

unfoldable pub lane_met : List ℕ → ℕ → Bool
lane_met t i = all (link_met t i) (ids_at successors_at (lane_at t i))
