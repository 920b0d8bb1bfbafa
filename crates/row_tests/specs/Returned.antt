-- Links and neighbours that name a lane back, in words of the lane table. Nothing above `sound` rests on this page.
use Rattle.std.specs.Prelude.{ℕ, suc, ◌+◌, ◌*◌, Bool, false, ◌&&◌, ◌||◌, cond, List, eqb, take, drop, Option, None, Some}
use Rattle.lists.specs.Every.{all}
use Rattle.lists.specs.Rows.{keys, row_with}
use Rattle.lists.specs.Select.{has, ascending}
use Rattle.tables.specs.View.{word, ids_at, rows}
use Rattle.tables.specs.Formed.{counted, lane_formed}
use Rattle.tables.specs.Columns.{lane_words, left_slot, predecessors_at, right_slot, row_count, row_id, successors_at}
use Rattle.rules.specs.Limits.{max_lanes}

-- a lane table whose rows can be read and searched
unfoldable pub searchable : List ℕ → Bool
searchable t = counted max_lanes lane_words t && ascending (keys lane_words (word row_count t) (drop 1 t)) && all (λ b. b) (rows lane_words lane_formed t)

-- row j of the table
abbrev pub lane_at : List ℕ → ℕ → List ℕ
lane_at t j = take lane_words (drop (1 + j * lane_words) t)

abbrev pub on_row : (List ℕ → Bool) → List ℕ → Option ℕ → Bool
on_row q t None = false
on_row q t (Some j) = q (lane_at t j)

-- a test of the row with an id; false where there is none
unfoldable pub row_test : (List ℕ → Bool) → List ℕ → ℕ → Bool
row_test q t i = on_row q t (row_with i (keys lane_words (word row_count t) (drop 1 t)))

-- lane b is there, and its list at k has id
abbrev pub names_back : List ℕ → ℕ → ℕ → ℕ → Bool
names_back t k i b = row_test (λ w. has i (ids_at k w)) t b

-- every successor has the lane among its predecessors, every predecessor among its successors
unfoldable pub lane_returned : List ℕ → List ℕ → Bool
lane_returned t w = all (names_back t predecessors_at (word row_id w)) (ids_at successors_at w) && all (names_back t successors_at (word row_id w)) (ids_at predecessors_at w)

-- the slot that answers a slot at place k; mark 1 is the same direction
abbrev pub answer_place : ℕ → ℕ → ℕ
answer_place k mark = cond (eqb mark 1) (cond (eqb k left_slot) right_slot left_slot) k

unfoldable pub slot_answered : List ℕ → ℕ → List ℕ → Bool
slot_answered t k w =
    eqb (word k w) 0
    || row_test (λ v. eqb (word (answer_place k (word k w)) v) (word k w) && eqb (word (suc (answer_place k (word k w))) v) (word row_id w)) t (word (suc k) w)

unfoldable pub slots_returned : List ℕ → List ℕ → Bool
slots_returned t w = slot_answered t left_slot w && slot_answered t right_slot w
