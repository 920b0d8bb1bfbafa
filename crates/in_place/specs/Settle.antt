-- Lines brought to their places within the coordinates, where they lie in order already: what does not move is not copied. Nothing that a host calls rests on
-- this page; proofs/Settled.antt ties it to the layout.
use Rattle.std.specs.Prelude.{◌≡◌, ℕ, ◌+◌, ◌-◌, ◌*◌, ◌≤◌, Bool, true, ◌&&◌, ◌||◌, cond, List, [], ◌∷◌, eqb, leb, Float, length}
use Rattle.lists.specs.Every.{all}
use Rattle.lists.specs.Rows.{over}
use Rattle.rules.specs.Limits.{max_points}
use Rattle.tables.specs.View.{Tables, part}
use Rattle.tables.specs.Formed.{Span, spans, counted}
use Rattle.layout.specs.Layout.{column_lines, counted_lines, gathered, pointing, sourced, Gatherable}
use Rattle.order.specs.Order.{column_of, least, in_order}

-- ---- moves

-- a line that lies behind its place is moved there
abbrev pub down_one : ℕ → ℕ → Span → List Float → List Float
down_one reach at s c = cond (eqb s.size 0 || (leb reach s.start || leb s.start at)) c (over c (at * 3) (part c s.start s.size))

-- all that do, from the front on; the first one's place is `at`
unfoldable pub down_all : ℕ → ℕ → List Span → List Float → List Float
down_all reach at [] c = c
down_all reach at (s ∷ ss) c = down_all reach (at + s.size) ss (down_one reach at s c)

-- a line that is drawn, or that lies before its place, is brought there
abbrev pub up_one : List Float → ℕ → ℕ → Span → List Float → List Float
up_one drawn reach at s c =
    cond (eqb s.size 0) c
    (cond (leb reach s.start) (over c (at * 3) (part drawn (s.start - reach) s.size))
    (cond (leb at s.start) c (over c (at * 3) (part c s.start s.size))))

-- all of them, from the back on
unfoldable pub up_all : List Float → ℕ → ℕ → List Span → List Float → List Float
up_all drawn reach at [] c = c
up_all drawn reach at (s ∷ ss) c = let rest = up_all drawn reach (at + s.size) ss c in up_one drawn reach at s rest

-- ---- rows

-- rows that say where their lines start after a layout
abbrev pub started : Tables → Tables
started t = pointing t.coordinates (gathered [] t)

-- ---- what is asked

-- a line lies before `reach`, or among `n` points that are drawn behind it; an empty one anywhere
abbrev pub lies : ℕ → ℕ → Span → Bool
lies reach n s = eqb s.size 0 || (leb (s.start + s.size) reach || (leb reach s.start && leb (s.start + s.size) (reach + n)))

-- of a table whose column is walked
pub record Walked (stride offset : ℕ) (marked : Bool) (reach n : ℕ) (t : List ℕ) : Type 0 where
  pub line : offset + 2 ≤ stride
  pub row : least marked ≤ stride
  pub narrow : stride ≤ 512
  pub counts : counted 4096 stride t ≡ true
  pub lines : all (lies reach n) (column_lines (column_of stride offset marked) t) ≡ true

-- of the coordinates: `points` of them are written at most
pub record Movable (reach : ℕ) (drawn c : List Float) (points : ℕ) : Type 0 where
  pub near : reach ≤ max_points
  pub stored : reach * 3 ≤ length c
  pub few : length drawn ≤ max_points * 3
  pub room : points * 3 ≤ length c

-- of the tables with lines
pub record Placed (reach n : ℕ) (t : Tables) : Type 0 where
  pub counts : counted_lines t ≡ true
  pub lines : all (lies reach n) (spans t) ≡ true

-- of a layout: rows that point into the coordinates up to point `reach`, and behind it to the lines that are drawn
pub record Layable (reach : ℕ) (drawn : List Float) (t : Tables) : Type 0 where
  pub near : reach ≤ max_points
  pub stored : reach * 3 ≤ length t.coordinates
  pub few : length drawn ≤ max_points * 3
  pub gatherable : Gatherable (sourced reach t.coordinates drawn) t

-- of the whole: lines that lie in order besides
pub record Settleable (reach : ℕ) (drawn : List Float) (t : Tables) : Type 0 where
  pub layable : Layable reach drawn t
  pub ordered : in_order reach (spans t) ≡ true
