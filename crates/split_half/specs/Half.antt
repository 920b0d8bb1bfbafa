-- The centreline of a half, made of the lane's row and the old boundaries, and whether a rule's anchor lies past the cut. Nothing that a host calls rests on this
-- page; the laws of split_rules tie it to the rules: it is the centreline of the half in the map after the cut.
use Rattle.std.specs.Prelude.{ℕ, ◌<◌, Bool, true, false, cond, not, List, reverse, Float, Option, None, Some}
use Rattle.std.specs.Float.Ieee.{le}
use Rattle.lists.specs.Rows.{over}
use Rattle.polyline.specs.Polyline.{flat, first_piece, second_piece}
use Rattle.entities.specs.Records.{Line, Lane}
use Rattle.rules.specs.Names.{BoundaryRef, Point2, Side}
use Rattle.rules.specs.Map.{station, boundary, boundary_on, derived, explicit_or}
use Rattle.rules.specs.Split.{center_piece, past_cut}
use Rattle.tables.specs.View.{word, lane_of}
use Rattle.tables.specs.Columns.{lane_words, row_count}
use Rattle.lookup.specs.Lookup.{row_at, drawn, points_or, Drawable}
use Rattle.split_lines.specs.Cut.{first_line_of, second_line_of}

-- a line before the cut or behind it
abbrev pub half_of : Bool → Point2 → Line → Line
half_of second p l = cond second (second_line_of p l) (first_line_of p l)

-- "Reversed references take the pieces in reverse": whether a half takes the second piece
abbrev pub takes_second : Bool → Bool → Bool
takes_second second reversed = cond second (not reversed) reversed

-- a line along a lane that runs against it
abbrev pub along : Bool → Line → Line
along back l = cond back (reverse l) l

-- a half's boundary along it
abbrev pub half_side : List Float → List ℕ → Point2 → Bool → BoundaryRef → Option Line
half_side c boundaries p second r =
    elim (boundary (drawn c boundaries) r.boundary) [ None ↦ None | Some b ↦ Some (along r.reversed (half_of (takes_second second r.reversed) p b.geometry)) ]

abbrev pub half_explicit : Point2 → Bool → Option Line → Option Line
half_explicit p second o = cond second (center_piece second_piece o p) (center_piece first_piece o p)

-- its centreline
abbrev pub half_center : List Float → List ℕ → Point2 → Bool → Lane → Option Line
half_center c boundaries p second l = explicit_or (half_explicit p second l.centerline) (derived (half_side c boundaries p second l.left) (half_side c boundaries p second l.right))

abbrev pub row_half : List Float → List ℕ → List ℕ → Point2 → Bool → ℕ → Option Line
row_half c lanes boundaries p second i = half_center c boundaries p second (lane_of c (row_at lane_words lanes i))

abbrev pub row_half_side : List Float → List ℕ → List ℕ → Point2 → Bool → ℕ → Side → Option Line
row_half_side c lanes boundaries p second i side = half_side c boundaries p second (boundary_on side (lane_of c (row_at lane_words lanes i)))

-- the line between both boundaries of a half
abbrev pub row_derived : List Float → List ℕ → List ℕ → Point2 → Bool → ℕ → Option Line
row_derived c lanes boundaries p second i =
    derived (half_side c boundaries p second (lane_of c (row_at lane_words lanes i)).left) (half_side c boundaries p second (lane_of c (row_at lane_words lanes i)).right)

-- an anchor's nearest station on a line is at or past the cut
abbrev pub past_on : Line → Float → Point2 → Bool
past_on l s anchor = elim (station l anchor) [ None ↦ false | Some at ↦ le s at ]

-- an anchor lies at or past the cut, on both halves' centrelines joined
unfoldable pub row_past : Float → List Float → List ℕ → List ℕ → Point2 → ℕ → Float → Point2 → Bool
row_past join c lanes boundaries p i s anchor = past_cut join (row_half c lanes boundaries p false i) (row_half c lanes boundaries p true i) s anchor

-- an array with a line at its front, where there is one
abbrev pub line_over : List Float → Option Line → List Float
line_over w o = over w 0 (flat (points_or o))

-- ---- what is asked

-- a lane's row; a half has at most 258 points
pub record Halving (lanes boundaries : List ℕ) (c : List Float) (i : ℕ) : Type 0 where
  pub drawable : Drawable lanes boundaries c
  pub row : i < word row_count lanes
