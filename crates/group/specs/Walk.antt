-- The walk over neighbour slots in a lane table: "The group walk starts with 1,024 lanes marked unseen."
use Rattle.std.specs.Prelude.{ℕ, suc, Bool, true, false, cond, List, [], ◌∷◌, eqb, ltb, length, get_or, set, drop, Option, None, Some}
use Rattle.lists.specs.Rows.{keys, row_with}
use Rattle.lists.specs.Select.{keep}
use Rattle.entities.specs.Records.{Map}
use Rattle.rules.specs.Map.{lateral_group}
use Rattle.tables.specs.View.{word, rows, lane_of}
use Rattle.row_tests.specs.Returned.{lane_at}
use Rattle.tables.specs.Columns.{lane_words, row_count, row_id}

-- The map of a table's lanes alone. Of a lane the group needs its id and its slots: not its line, so no coordinates are read.
unfoldable pub lane_map : List ℕ → Map
lane_map t =
    record {
      lanes = rows lane_words (lane_of []) t;
      boundaries = [];
      roads = [];
      junctions = [];
      rules = [];
      stop_lines = [];
      crosswalks = [];
    }

-- the ids of the rows
abbrev pub ids_of : List ℕ → List ℕ
ids_of t = keys lane_words (word row_count t) (drop 1 t)

-- "everything reached through neighbour slots, ascending": the group of the lane in row i
unfoldable pub group_at : List ℕ → ℕ → List ℕ
group_at t i = lateral_group (lane_map t) (word row_id (lane_at t i))

-- ---- one slot

-- the row of the lane that the slot at place k of row j names; nothing for an empty slot and for an absent lane
unfoldable pub slot_row : List ℕ → ℕ → ℕ → Option ℕ
slot_row t k j = cond (eqb (word k (lane_at t j)) 0) None (row_with (word (suc k) (lane_at t j)) (ids_of t))

-- ---- marks of rows

abbrev pub seen_within : ℕ → Option ℕ → Bool
seen_within n None = true
seen_within n (Some r) = ltb r n

-- how many are marked
unfoldable pub marks : List Bool → ℕ
marks s = length (keep (λ b. b) s)

-- a row that was found is marked
abbrev pub seen_marked : Option ℕ → List Bool → List Bool
seen_marked None s = s
seen_marked (Some r) s = set s r true

-- a row that was found and is not marked goes into the queue, at its end
abbrev pub queued : Option ℕ → List Bool → ℕ → List ℕ → List ℕ
queued None s end q = q
queued (Some r) s end q = cond (get_or s r false) q (set q end r)

-- the keys whose rows are marked
unfoldable pub chosen : List Bool → List ℕ → List ℕ
chosen s [] = []
chosen [] (k ∷ ks) = []
chosen (b ∷ s) (k ∷ ks) = let rest = chosen s ks in cond b (k ∷ rest) rest
