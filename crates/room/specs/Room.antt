-- The room that an edit asks for, as tests of numbers: document 01's 11, the 10 of the map and the 10 of the lists. Nothing that a host calls rests on this page.
use Rattle.std.specs.Prelude.{ℕ, ◌-◌, ◌/◌, Bool, ◌&&◌, List, leb, Float, length}
use Rattle.rules.specs.Limits.{max_points}
use Rattle.rules.specs.Sound.{total, last_counter}
use Rattle.rules.specs.Ops.{counter_after}
use Rattle.tables.specs.View.{word, rows}
use Rattle.report.specs.declared.Counts.{Counts}

-- "11 the counter plus the ids needed passes 2^64 − 1": it does not
abbrev pub ids_left : ℕ → ℕ → Bool
ids_left counter ids = leb (counter_after counter ids) last_counter

-- n rows of s words keep a limit, and a lent table holds them
abbrev pub rows_fit : ℕ → ℕ → ℕ → List ℕ → Bool
rows_fit limit s n t = leb n limit && leb n ((length t - 1) / s)

-- n points keep the limit, and the lent coordinates hold them
abbrev pub points_fit : ℕ → List Float → Bool
points_fit n c = leb n max_points && leb n (length c / 3)

-- the lent lists have places for so many
abbrev pub lists_fit : Counts → List ℕ → List ℕ → List ℕ → List ℕ → Bool
lists_fit n created modified deleted warnings =
    leb n.created (length created / 2) && leb n.modified (length modified / 2) && leb n.deleted (length deleted / 2) && leb n.warnings (length warnings / 10)

-- how many points the lines of a column have: word k of every row
unfoldable pub column_points : ℕ → ℕ → List ℕ → ℕ
column_points s k t = total (rows s (word k) t)
