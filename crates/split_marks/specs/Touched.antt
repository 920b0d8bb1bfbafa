-- Which rows a split touches, as marks by row. Nothing that a host calls rests on this page; the laws of split_changes tie it to the rules.
use Rattle.std.specs.Prelude.{◌≡◌, ℕ, suc, ◌+◌, ◌*◌, ◌≤◌, Bool, true, false, ◌||◌, cond, List, [], ◌∷◌, map, eqb, leb, length}
use Rattle.lists.specs.Select.{any, ascending, has}
use Rattle.tables.specs.View.{word, ids_at, rows}
use Rattle.tables.specs.Formed.{counted}
use Rattle.tables.specs.Columns.{lane_words, predecessors_at, row_count, row_id}
use Rattle.row_tests.specs.Good.{all_rows}

-- ---- rows

-- a list names a cut lane
abbrev pub names_cut : List ℕ → ℕ → List ℕ → Bool
names_cut cut k w = any (λ i. has i cut) (ids_at k w)

-- a lane is cut, or came from one that is
abbrev pub lane_touched : List ℕ → List ℕ → Bool
lane_touched cut w = has (word row_id w) cut || names_cut cut predecessors_at w

-- the same of the words of a table: the list whose count is word `at`, the lane whose row begins at word `row`
abbrev pub names_at : List ℕ → ℕ → List ℕ → Bool
names_at cut at t = any (λ i. has i cut) (ids_at at t)

abbrev pub lane_at : List ℕ → ℕ → List ℕ → Bool
lane_at cut row t = has (word row t) cut || names_at cut (row + predecessors_at) t

-- ---- tables

abbrev pub row_marks : List ℕ → ℕ → ℕ → List ℕ → List Bool
row_marks cut s k t = map (names_cut cut k) (rows s (λ w. w) t)

abbrev pub lane_marks : List ℕ → List ℕ → List Bool
lane_marks cut t = map (lane_touched cut) (rows lane_words (λ w. w) t)

-- boundaries that are cut and keep their ids; `marks` says which are cut, and their pieces come in the same order
unfoldable pub alone_from : List ℕ → ℕ → List Bool → List Bool
alone_from pieces j [] = []
alone_from pieces j (b ∷ bs) = cond b (eqb (word (j * 3 + 1) pieces) (word (j * 3) pieces) ∷ alone_from pieces (suc j) bs) (false ∷ alone_from pieces j bs)

-- how many are marked
unfoldable pub marked : List Bool → ℕ
marked [] = 0
marked (b ∷ bs) = let n = marked bs in cond b (suc n) n

-- ---- what is asked

-- of a table whose lists at place k have at most `most` ids
pub record Named (s k most limit : ℕ) (cut t : List ℕ) (marks : List Bool) : Type 0 where
  pub ascend : ascending cut ≡ true
  pub list : suc k + most ≤ s
  pub narrow : s ≤ 512
  pub few : limit ≤ 4096
  pub counts : counted limit s t ≡ true
  pub rows : all_rows s (λ w. leb (word k w) most) t ≡ true
  pub room : word row_count t ≤ length marks
