-- The tables with lines as a split leaves them, in words: pieces drawn into an array of work, rows that point there, and the layout. Nothing that a host calls
-- rests on this page; the laws of split_laid tie it to `laid` and the rules.
use Rattle.std.specs.Prelude.{ℕ, ◌+◌, ◌*◌, ◌≤◌, Bool, true, false, cond, List, ltb, Float, length, replicate}
use Rattle.std.specs.Float.{binary64}
use Rattle.std.specs.Float.Ieee.{of_bits}
use Rattle.lists.specs.Rows.{over}
use Rattle.polyline.specs.Polyline.{flat}
use Rattle.entities.specs.Records.{Line}
use Rattle.rules.specs.Names.{Point2}
use Rattle.rules.specs.Limits.{max_points}
use Rattle.tables.specs.View.{Tables}
use Rattle.tables.specs.Columns.{boundary_start, boundary_words, lane_centerline_start, lane_words}
use Rattle.layout.specs.Layout.{line_tables, sourced, gathered, Gatherable}
use Rattle.order.specs.Order.{column_of}
use Rattle.split_lines.specs.Cut.{Chosen, chosen_lines, drawn_pieces}
use Rattle.split_tables.specs.Cut.{boundaries_cut, lanes_cut, BoundariesCut, LanesCut}

-- what a split has decided: the marked lanes and boundaries, the cut lanes' ids, the first second half's id, the pieces, and the measures of lines
pub record Cutting : Type 0 where
  pub point : Point2
  pub reach : ℕ
  pub seen : List Bool
  pub cut : List ℕ
  pub next : ℕ
  pub marks : List Bool
  pub pieces : List ℕ
  pub many : ℕ
  pub lines : List ℕ
  pub centers : List ℕ

-- as the functions are given it
abbrev pub cutting : Point2 → ℕ → List Bool → List ℕ → ℕ → List Bool → List ℕ → ℕ → List ℕ → List ℕ → Cutting
cutting point reach seen cut next marks pieces m lines centers =
    record { point = point; reach = reach; seen = seen; cut = cut; next = next; marks = marks; pieces = pieces; many = m; lines = lines; centers = centers }

-- ---- lines

-- the lines of the cut boundaries, and of the cut lanes; a lane without an explicit centreline has an empty one
abbrev pub boundary_lines_of : Cutting → Tables → List Line
boundary_lines_of k t = chosen_lines t.coordinates (column_of boundary_words boundary_start false) k.marks t.boundaries

abbrev pub center_lines_of : Cutting → Tables → List Line
center_lines_of k t = chosen_lines t.coordinates (column_of lane_words lane_centerline_start true) k.seen t.lanes

-- points of the boundaries' pieces, and of all
abbrev pub piece_points : Cutting → Tables → ℕ
piece_points k t = length (drawn_pieces k.point (boundary_lines_of k t))

abbrev pub drawn_points : Cutting → Tables → ℕ
drawn_points k t = piece_points k t + length (drawn_pieces k.point (center_lines_of k t))

-- drawn one behind the other
unfoldable pub drawn_lines : Cutting → Tables → List Float → List Float
drawn_lines k t work =
    over (over work 0 (flat (drawn_pieces k.point (boundary_lines_of k t)))) (piece_points k t * 3) (flat (drawn_pieces k.point (center_lines_of k t)))

-- ---- tables

-- rows point to the pieces as if these lay behind point `reach` of the coordinates
unfoldable pub cut_tables : Cutting → Tables → Tables
cut_tables k t =
    line_tables
    (lanes_cut k.pieces k.many k.cut k.next k.centers k.seen t.lanes)
    (boundaries_cut k.pieces k.many k.lines k.marks t.boundaries)
    t.stop_lines
    t.crosswalks
    t.coordinates

-- and all lines are laid out anew
unfoldable pub relaid : Cutting → List Float → Tables → Tables
relaid k work t = gathered (sourced k.reach t.coordinates (drawn_lines k t work)) (cut_tables k t)

-- the array of work that is taken: for a large group or many points the larger one
abbrev pub work_floats : ℕ → ℕ → ℕ
work_floats lanes points = cond (ltb 64 lanes) 196608 (cond (ltb 2048 points) 196608 6144)

abbrev pub blank : ℕ → List Float
blank n = replicate n (of_bits binary64 0)

-- ---- what is asked

-- the pieces have room in the array of work
pub record Room (k : Cutting) (t : Tables) (work : List Float) : Type 0 where
  pub room : drawn_points k t * 3 ≤ length work
  pub few : length work ≤ max_points * 3

pub record Relayable (k : Cutting) (t : Tables) : Type 0 where
  pub near : k.reach ≤ max_points
  pub stored : k.reach * 3 ≤ length t.coordinates
  pub points : drawn_points k t ≤ max_points
  pub boundary_lines : Chosen t.coordinates boundary_words boundary_start false k.marks t.boundaries
  pub lane_lines : Chosen t.coordinates lane_words lane_centerline_start true k.seen t.lanes
  pub boundaries_are_cut : BoundariesCut k.pieces k.many k.lines k.marks t.boundaries
  pub lanes_are_cut : LanesCut k.pieces k.many k.cut k.next k.centers k.seen t.lanes
  pub gatherable : (work : List Float) → Room k t work → Gatherable (sourced k.reach t.coordinates (drawn_lines k t work)) (cut_tables k t)
