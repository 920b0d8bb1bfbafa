-- The rows of a table, one by one.
use Rattle.std.specs.Prelude.{ℕ, ◌+◌, ◌*◌, ◌<◌, List, take, drop}
use Rattle.tables.specs.View.{word}
use Rattle.tables.specs.Columns.{row_count}

-- row i of a table whose rows have s words; they begin behind the count
abbrev pub row_at : ℕ → List ℕ → ℕ → List ℕ
row_at s t i = take s (drop (1 + i * s) t)

-- P holds of each row that the table counts
abbrev pub EachRow : ℕ → List ℕ → (List ℕ → Type 0) → Type 0
EachRow s t P = (i : ℕ) → i < word row_count t → P (row_at s t i)

-- and of some row
abbrev pub SomeRow : ℕ → List ℕ → (List ℕ → Type 0) → Type 0
SomeRow s t P = (i : ℕ) × (i < word row_count t) × P (row_at s t i)
