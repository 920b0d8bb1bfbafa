-- Rows whose lists of lanes gain each second half after its first, in words. Nothing that a host calls rests on this page.
use Rattle.std.specs.Prelude.{◌≡◌, ℕ, suc, ◌+◌, ◌^◌, ◌≤◌, Bool, true, ◌&&◌, List, leb, length}
use Rattle.lists.specs.Select.{ascending, insert_after, numbered}
use Rattle.rules.specs.Limits.{max_ids}
use Rattle.tables.specs.View.{word, ids_at}
use Rattle.tables.specs.Formed.{counted}
use Rattle.row_tests.specs.Good.{all_rows}
use Rattle.mentions.specs.Naming.{change_at}

-- the list at place k grown; the second half of the cut lane at place r is next + r
abbrev pub grows_at : ℕ → List ℕ → ℕ → List ℕ → List ℕ
grows_at next cut k w = change_at (insert_after (numbered next cut)) k w

-- a list of at most 64 ids, that has 64 at most when it is grown
abbrev pub list_grows : ℕ → List ℕ → ℕ → List ℕ → Bool
list_grows next cut k w = leb (word k w) max_ids && leb (length (insert_after (numbered next cut) (ids_at k w))) max_ids

-- the cut lanes ascend, and there are ids for their second halves
pub record Numbered (next : ℕ) (cut : List ℕ) : Type 0 where
  pub ascend : ascending cut ≡ true
  pub ids : next + length cut ≤ 2 ^ 64

-- a table of at most 1024 rows, each of a list of 64 slots at place k and what lies before it
pub record Grows (next : ℕ) (cut : List ℕ) (s k : ℕ) (t : List ℕ) : Type 0 where
  pub numbers : Numbered next cut
  pub width : s ≡ suc k + max_ids
  pub narrow : s ≤ 512
  pub counts : counted 1024 s t ≡ true
  pub rows : all_rows s (list_grows next cut k) t ≡ true
