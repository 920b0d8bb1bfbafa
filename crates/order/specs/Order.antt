-- Whether the lines of a map lie in the order of a layout, where some of them are drawn anew. Nothing that a host calls rests on this page.
use Rattle.std.specs.Prelude.{ℕ, suc, ◌+◌, Bool, true, ◌&&◌, ◌||◌, cond, List, [], ◌∷◌, eqb, leb, drop}
use Rattle.tables.specs.View.{mark}
use Rattle.tables.specs.Formed.{Span}
use Rattle.tables.specs.Columns.{lane_centerline, lane_centerline_start}
use Rattle.layout.specs.Layout.{Column}

-- ---- columns

-- a column of a table: rows of `words` words, the line's start; where `marked`, only rows with a lane's mark have a line
abbrev pub column_of : ℕ → ℕ → Bool → Column
column_of words start marked = record { words = words; has = λ w. cond marked (mark lane_centerline w) true; start = start }

-- whether the row from word `row` on has a line
abbrev pub row_has : Bool → ℕ → List ℕ → Bool
row_has marked row t = cond marked (mark lane_centerline (drop row t)) true

-- the words of a row that this looks at
abbrev pub least : Bool → ℕ
least marked = cond marked lane_centerline_start 0

-- ---- in order

-- The point behind a line, of lines that lie one behind the other. A drawn line, which starts at `reach` or behind, and an empty one may lie anywhere; one that
-- is out of order leaves a point behind `reach`, which no line follows.
abbrev pub behind : ℕ → ℕ → Span → ℕ
behind reach from s =
    cond (eqb s.size 0 || leb reach s.start) from (cond (leb from s.start && leb (s.start + s.size) reach) (s.start + s.size) (suc reach))

unfoldable pub behind_all : ℕ → ℕ → List Span → ℕ
behind_all reach from [] = from
behind_all reach from (s ∷ ss) = behind_all reach (behind reach from s) ss

-- the lines that are not drawn lie in their order before point `reach`
abbrev pub in_order : ℕ → List Span → Bool
in_order reach ss = leb (behind_all reach 0 ss) reach
