-- The boundaries that a split cuts, and the ids of their pieces, by rows. Nothing that a host calls rests on this page; the laws of split_laws tie it to the rules.
use Rattle.std.specs.Prelude.{◌≡◌, ℕ, suc, ◌+◌, ◌≤◌, Bool, true, not, cond, List, [], ◌∷◌, map, length, set, drop, Option, None, Some}
use Rattle.lists.specs.Rows.{keys}
use Rattle.lists.specs.Select.{any, each}
use Rattle.rules.specs.Names.{Side}
use Rattle.rules.specs.Limits.{max_boundaries, max_lanes}
use Rattle.tables.specs.View.{word, ref_at, rows}
use Rattle.tables.specs.Columns.{boundary_words, lane_words, row_count}
use Rattle.lookup.specs.Lookup.{row_at, place_of, side_word, sorted_table, row_uses}
use Rattle.split_plan.specs.Placing.{picked, marked_rows}

-- the ids of the table's rows
abbrev pub boundary_keys : List ℕ → List ℕ
boundary_keys boundaries = keys boundary_words (word row_count boundaries) (drop 1 boundaries)

-- ---- which are cut

-- a lane of the group uses boundary k
abbrev pub cut_by : List Bool → List ℕ → ℕ → Bool
cut_by seen lanes k = any (row_uses k) (marked_rows seen lanes)

abbrev pub cut_marks : List Bool → List ℕ → List ℕ → List Bool
cut_marks seen lanes boundaries = map (cut_by seen lanes) (boundary_keys boundaries)

-- those that are, in the table's order
abbrev pub cut_keys : List Bool → List ℕ → List ℕ
cut_keys marks boundaries = picked marks (boundary_keys boundaries)

-- the boundary of the lane in row j on a side is marked, if it is there
abbrev pub mark_found : Option ℕ → List Bool → List Bool
mark_found (Some x) marks = set marks x true
mark_found None marks = marks

abbrev pub side_marked : List ℕ → ℕ → Side → List ℕ → List Bool → List Bool
side_marked lanes j side boundaries marks = mark_found (place_of boundary_words boundaries (ref_at (side_word side) (row_at lane_words lanes j)).boundary) marks

-- the tables are in order, and there is a mark for every boundary
abbrev pub Markable : List ℕ → List ℕ → List Bool → Type 0
Markable lanes boundaries marks =
    (sorted_table max_lanes lane_words lanes ≡ true) × ((sorted_table max_boundaries boundary_words boundaries ≡ true) × (word row_count boundaries ≤ length marks))

-- ---- whose they are

-- a lane outside the group uses boundary k
abbrev pub used_beyond : List Bool → List ℕ → ℕ → Bool
used_beyond seen lanes k = any (row_uses k) (picked (map not seen) (rows lane_words (λ w. w) lanes))

-- "A boundary used only by the group keeps its id for its first piece; another gets two new ones"
abbrev pub ids_if : Bool → ℕ
ids_if beyond = cond beyond 2 1

abbrev pub ids_for : List Bool → List ℕ → ℕ → ℕ
ids_for seen lanes k = ids_if (used_beyond seen lanes k)

unfoldable pub ids_of : List Bool → List ℕ → List ℕ → ℕ
ids_of seen lanes [] = 0
ids_of seen lanes (k ∷ ks) = ids_for seen lanes k + ids_of seen lanes ks

-- what counting asks
abbrev pub Countable : List ℕ → List Bool → List ℕ → List Bool → Type 0
Countable lanes seen boundaries marks = (Markable lanes boundaries marks) × (word row_count lanes ≤ length seen)

-- ---- their pieces

-- a boundary's id, and the ids of its first and second piece; `next` is the next id
abbrev pub piece_row : Bool → ℕ → ℕ → List ℕ
piece_row beyond next k = k ∷ cond beyond next k ∷ cond beyond (suc next) next ∷ []

unfoldable pub piece_rows : List Bool → List ℕ → ℕ → List ℕ → List (List ℕ)
piece_rows seen lanes next [] = []
piece_rows seen lanes next (k ∷ ks) = piece_row (used_beyond seen lanes k) next k ∷ piece_rows seen lanes (next + ids_for seen lanes k) ks

-- one behind the other
abbrev pub piece_words : List Bool → List ℕ → ℕ → List ℕ → List ℕ
piece_words seen lanes next ks = each (λ r. r) (piece_rows seen lanes next ks)
