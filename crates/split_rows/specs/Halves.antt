-- The rows of the lanes after a split, in words. Cut lanes are an ascending list `cut`; the second half of the one at place r is next + r. The pieces of cut
-- boundaries are rows of three words, the boundary, its first piece, its second; the measures of cut centrelines are rows of three words by the lane's place.
-- Nothing that a host calls rests on this page; the laws of split_laid tie it to the rules.
use Rattle.std.specs.Prelude.{◌≡◌, ℕ, ◌+◌, ◌*◌, ◌^◌, ◌≤◌, ◌<◌, Bool, true, false, cond, List, [], ◌∷◌, leb, length, set, Option, None, Some}
use Rattle.lists.specs.Every.{all}
use Rattle.lists.specs.Rows.{keys, over, row_with}
use Rattle.lists.specs.Select.{ascending, numbered}
use Rattle.rules.specs.Split.{first_slot, second_slot, came_from}
use Rattle.rules.specs.Limits.{max_links}
use Rattle.tables.specs.View.{word, mark, ids_at, slot_at}
use Rattle.tables.specs.Formed.{lane_formed}
use Rattle.tables.specs.Columns.{lane_attributes, lane_centerline, lane_centerline_start, lane_kind, lane_left, lane_left_reversed, lane_one_way, lane_right, lane_right_reversed, lane_speed, lane_speed_bits, lane_turn, lane_words, left_slot, predecessors_at, right_slot, row_id, successors_at}
use Rattle.store.specs.Rows.{set_slot, set_list}
use Rattle.mentions.specs.Naming.{change_at}

-- ---- boundaries

-- "Reversed references take the pieces in reverse": the word of a piece's row that a half takes
abbrev pub piece_word : Bool → Bool → ℕ
piece_word second reversed = cond second (cond reversed 1 2) (cond reversed 2 1)

abbrev pub piece_found : List ℕ → ℕ → ℕ → Option ℕ → ℕ
piece_found pieces k b (Some x) = word (x * 3 + k) pieces
piece_found pieces k b None = b

-- the boundary that a half has in place of b; one that is not cut stays
abbrev pub half_ref : List ℕ → ℕ → Bool → ℕ → Bool → ℕ
half_ref pieces m second b reversed = piece_found pieces (piece_word second reversed) b (row_with b (keys 3 m pieces))

-- ---- rows

-- where a half's centreline lies, in a row that has one
abbrev pub center_onto : Bool → ℕ → ℕ → List ℕ → List ℕ
center_onto on start size w = cond on (over w lane_centerline_start (start ∷ size ∷ [])) w

-- what a half takes: its id's place among the cut lanes is `rank`, and its centreline's measures are in row `rank`
abbrev pub first_start : List ℕ → ℕ → ℕ
first_start centers rank = word (rank * 3) centers

abbrev pub first_size : List ℕ → ℕ → ℕ
first_size centers rank = word (rank * 3 + 1) centers

abbrev pub second_size : List ℕ → ℕ → ℕ
second_size centers rank = word (rank * 3 + 2) centers

-- a cut lane's row becomes its first half's; its predecessors are changed as every lane's are
unfoldable pub first_row : List ℕ → ℕ → List ℕ → ℕ → List ℕ → ℕ → List ℕ → List ℕ
first_row pieces m cut next centers rank w =
    let hs = numbered next cut in
    let left = set w lane_left (half_ref pieces m false (word lane_left w) (mark lane_left_reversed w)) in
    let right = set left lane_right (half_ref pieces m false (word lane_right w) (mark lane_right_reversed w)) in
    let center = center_onto (mark lane_centerline w) (first_start centers rank) (first_size centers rank) right in
    let slots = set_slot right_slot (first_slot hs (slot_at right_slot w)) (set_slot left_slot (first_slot hs (slot_at left_slot w)) center) in
    set_list successors_at ((next + rank) ∷ []) slots

-- what a second half has of the cut lane's old row v: kind, boundaries, limit, attributes; its own id and boundaries
unfoldable pub head_row : ℕ → ℕ → ℕ → List ℕ → List ℕ → List ℕ
head_row id left right v w =
    let head = over w 0 (id ∷ word lane_kind v ∷ left ∷ word lane_left_reversed v ∷ right ∷ word lane_right_reversed v ∷ word lane_centerline v ∷ []) in
    let speed = set head lane_speed (word lane_speed v) in
    let limit = cond (mark lane_speed v) (set speed lane_speed_bits (word lane_speed_bits v)) speed in
    over limit lane_one_way (word lane_one_way v ∷ word lane_turn v ∷ word lane_attributes v ∷ [])

-- a second half's row written onto the words w; what it does not use stays
unfoldable pub second_row : List ℕ → ℕ → List ℕ → ℕ → List ℕ → ℕ → List ℕ → List ℕ → List ℕ
second_row pieces m cut next centers rank v w =
    let hs = numbered next cut in
    let left = half_ref pieces m true (word lane_left v) (mark lane_left_reversed v) in
    let right = half_ref pieces m true (word lane_right v) (mark lane_right_reversed v) in
    let head = head_row (next + rank) left right v w in
    let center = center_onto (mark lane_centerline v) (first_start centers rank + first_size centers rank) (second_size centers rank) head in
    let slots = set_slot right_slot (second_slot hs (slot_at right_slot v)) (set_slot left_slot (second_slot hs (slot_at left_slot v)) center) in
    set_list successors_at (ids_at successors_at v) (set_list predecessors_at (word row_id v ∷ []) slots)

-- who came from a cut lane comes from its second half
abbrev pub came_row : List ℕ → ℕ → List ℕ → List ℕ
came_row cut next w = change_at (came_from (numbered next cut)) predecessors_at w

-- any lane's row after the split
abbrev pub row_cut : List ℕ → ℕ → List ℕ → ℕ → List ℕ → Option ℕ → List ℕ → List ℕ
row_cut pieces m cut next centers (Some rank) w = came_row cut next (first_row pieces m cut next centers rank w)
row_cut pieces m cut next centers None w = came_row cut next w

abbrev pub lane_cut : List ℕ → ℕ → List ℕ → ℕ → List ℕ → List ℕ → List ℕ
lane_cut pieces m cut next centers w = row_cut pieces m cut next centers (row_with (word row_id w) cut) w

-- ---- what is asked

-- of the cut lanes: they ascend, their second halves' ids are larger and there
pub record Cuts (next : ℕ) (cut : List ℕ) : Type 0 where
  pub ascend : ascending cut ≡ true
  pub below : all (λ i. leb (1 + i) next) cut ≡ true
  pub ids : next + length cut < 2 ^ 64

-- of the pieces and the measures
pub record Halved (pieces : List ℕ) (m : ℕ) (cut : List ℕ) (next : ℕ) (centers : List ℕ) : Type 0 where
  pub cuts : Cuts next cut
  pub pieces_room : m * 3 ≤ length pieces
  pub pieces_ascend : ascending (keys 3 m pieces) ≡ true
  pub centers_room : length cut * 3 ≤ length centers
  pub centers_near : all (λ i. leb i 4194304) centers ≡ true

-- of a lane's row: it is formed, and its predecessors ascend and are below the new ids
pub record RowCuts (next : ℕ) (w : List ℕ) : Type 0 where
  pub words : length w ≡ lane_words
  pub formed : lane_formed w ≡ true
  pub ascend : ascending (ids_at predecessors_at w) ≡ true
  pub below : all (λ i. leb (1 + i) next) (ids_at predecessors_at w) ≡ true

-- of a row whose predecessors change: it holds them, and they ascend
pub record RowCame (w : List ℕ) : Type 0 where
  pub words : length w ≡ lane_words
  pub few : word predecessors_at w ≤ max_links
  pub ascend : ascending (ids_at predecessors_at w) ≡ true
