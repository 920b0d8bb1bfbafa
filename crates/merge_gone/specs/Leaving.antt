-- What a merge leaves, in numbers: the boundaries that go, and whether the finished map has room. Nothing that a host calls rests on this page; the laws of
-- merge_limits tie it to the rules.
use Rattle.std.specs.Prelude.{ℕ, ◌+◌, ◌-◌, ◌≤◌, ◌<◌, ◌≡◌, Bool, true, false, not, ◌&&◌, ◌||◌, cond, List, eqb, leb, Float, length, drop, Option}
use Rattle.lists.specs.Every.{all}
use Rattle.lists.specs.Rows.{keys}
use Rattle.lists.specs.Select.{keep, has, place}
use Rattle.rules.specs.Names.{Left, Right}
use Rattle.rules.specs.Limits.{max_boundaries, max_crosswalks, max_lanes, max_line_points, max_stop_lines}
use Rattle.rules.specs.Sound.{total}
use Rattle.tables.specs.View.{word, mark, rows}
use Rattle.tables.specs.Columns.{boundary_size, boundary_start, boundary_words, crosswalk_left_start, crosswalk_right_start, crosswalk_words, lane_centerline, lane_centerline_size, lane_words, row_count, row_id, stop_line_start, stop_line_words}
use Rattle.lookup.specs.Lookup.{row_at, row_uses, used_outside, sorted_table, all_short}
use Rattle.merge_plan.specs.declared.Joined.{Joined}
use Rattle.merge_plan.specs.declared.Joined.TheVariants.{Kept, InPlace, Fresh}
use Rattle.merge_plan.specs.declared.Plan.{Plan}
use Rattle.merge_plan.specs.Sides.{side_points, side_ids, is_fresh, side_id, center_points}
use Rattle.merge_gone.specs.declared.Sides.{Sides}
use Rattle.room.specs.Room.{rows_fit, points_fit, column_points}

-- ---- boundaries that go

-- the merged lane still uses boundary b: on a side that has no new one
abbrev pub held : List ℕ → ℕ → Joined → Joined → ℕ → Bool
held lanes i l r b = (not (is_fresh l) && eqb (side_id lanes i Left) b) || (not (is_fresh r) && eqb (side_id lanes i Right) b)

-- neither the merged lane nor a third one uses it
abbrev pub idle : List ℕ → ℕ → ℕ → Joined → Joined → ℕ → Bool
idle lanes i j l r b = not (held lanes i l r b || used_outside lanes b (word row_id (row_at lane_words lanes i)) (word row_id (row_at lane_words lanes j)))

-- it is in the table
abbrev pub there : List ℕ → ℕ → Bool
there boundaries b = has b (keys boundary_words (word row_count boundaries) (drop 1 boundaries))

-- a boundary that one of both lanes names goes
abbrev pub goes : List ℕ → ℕ → ℕ → Joined → Joined → List ℕ → ℕ → Bool
goes lanes i j l r boundaries b = there boundaries b && idle lanes i j l r b

-- it joins those that go, in its place
abbrev pub with_gone : Bool → ℕ → List ℕ → List ℕ
with_gone on b ids = cond on (place b ids) ids

-- "Boundaries left unused by merge or removal are deleted": those of the two lanes, in the table's order
unfoldable pub gone_of : List ℕ → ℕ → ℕ → Joined → Joined → List ℕ → List ℕ
gone_of lanes i j l r boundaries =
    keep (λ b. (row_uses b (row_at lane_words lanes i) || row_uses b (row_at lane_words lanes j)) && idle lanes i j l r b) (keys boundary_words (word row_count boundaries) (drop 1 boundaries))

-- the rows that are looked at
pub record Leaving (lanes : List ℕ) (i j : ℕ) (boundaries : List ℕ) : Type 0 where
  pub lanes_are_sorted : sorted_table max_lanes lane_words lanes ≡ true
  pub first : i < word row_count lanes
  pub second : j < word row_count lanes
  pub boundaries_are_sorted : sorted_table max_boundaries boundary_words boundaries ≡ true

-- ---- points

-- a side is joined in place, in boundary b
abbrev pub joins : Joined → ℕ → ℕ → Bool
joins Kept a b = false
joins (InPlace n) a b = eqb a b
joins (Fresh n) a b = false

-- both sides of the first lane: how each is merged, and its boundary
abbrev pub sides_of : List ℕ → ℕ → Plan → Sides
sides_of lanes i p = record { left = p.left; left_id = side_id lanes i Left; right = p.right; right_id = side_id lanes i Right }

-- points of a boundary's row: of one that is joined in place those of the joined line, the right side's before the left's
abbrev pub size_after : Sides → List ℕ → ℕ
size_after s w =
    cond (joins s.right s.right_id (word row_id w)) (side_points s.right)
    (cond (joins s.left s.left_id (word row_id w)) (side_points s.left) (word boundary_size w))

abbrev pub row_points : List ℕ → Sides → List ℕ → ℕ
row_points gone s w = cond (has (word row_id w) gone) 0 (size_after s w)

unfoldable pub boundary_points : List ℕ → Sides → List ℕ → ℕ
boundary_points gone s t = total (rows boundary_words (row_points gone s) t)

-- of a new boundary
abbrev pub new_points : Joined → ℕ
new_points Kept = 0
new_points (InPlace n) = 0
new_points (Fresh n) = n

-- of a lane's explicit centreline: the second lane goes, the first has the joined one, where there is one
abbrev pub center_after : ℕ → ℕ → Option ℕ → List ℕ → ℕ
center_after first second center w =
    cond (eqb (word row_id w) second) 0
    (cond (eqb (word row_id w) first) (center_points center) (cond (mark lane_centerline w) (word lane_centerline_size w) 0))

unfoldable pub lane_points : ℕ → ℕ → Option ℕ → List ℕ → ℕ
lane_points first second center t = total (rows lane_words (center_after first second center) t)

-- all of them
unfoldable pub points_after : List ℕ → ℕ → ℕ → List ℕ → List ℕ → List ℕ → Sides → Option ℕ → List ℕ → ℕ
points_after lanes i j boundaries stops crosswalks s center gone =
    boundary_points gone s boundaries
    + (new_points s.left + new_points s.right)
    + lane_points (word row_id (row_at lane_words lanes i)) (word row_id (row_at lane_words lanes j)) center lanes
    + column_points stop_line_words (stop_line_start + 1) stops
    + (column_points crosswalk_words (crosswalk_left_start + 1) crosswalks + column_points crosswalk_words (crosswalk_right_start + 1) crosswalks)

-- ---- the finished map has room

-- the right side's line stands where both sides are joined in place in one boundary
abbrev pub overdrawn : Sides → Bool
overdrawn s = joins s.left s.left_id s.right_id && joins s.right s.right_id s.right_id

-- "256 points a line", of the lines that are drawn
abbrev pub lines_fit : Sides → Option ℕ → Bool
lines_fit s center = (overdrawn s || leb (side_points s.left) max_line_points) && leb (side_points s.right) max_line_points && leb (center_points center) max_line_points

abbrev pub boundaries_after : List ℕ → Plan → List ℕ → ℕ
boundaries_after boundaries p gone = word row_count boundaries - length gone + (side_ids p.left + side_ids p.right)

unfoldable pub fits_after : List ℕ → ℕ → ℕ → List ℕ → List ℕ → List ℕ → List Float → Plan → List ℕ → Bool
fits_after lanes i j boundaries stops crosswalks c p gone =
    rows_fit max_boundaries boundary_words (boundaries_after boundaries p gone) boundaries
    && lines_fit (sides_of lanes i p) p.center
    && points_fit (points_after lanes i j boundaries stops crosswalks (sides_of lanes i p) p.center gone) c

-- an explicit centreline has at most 256 points
unfoldable pub centers_short : List ℕ → Bool
centers_short t = all (λ b. b) (rows lane_words (λ w. not (mark lane_centerline w) || leb (word lane_centerline_size w) max_line_points) t)

-- what counting points asks: tables in order, lines of at most 256 points, joined ones of at most 512
pub record Counting (lanes : List ℕ) (i j : ℕ) (boundaries stops crosswalks : List ℕ) (s : Sides) (center : Option ℕ) : Type 0 where
  pub leaving : Leaving lanes i j boundaries
  pub boundaries_short : all_short boundary_words boundary_start boundaries ≡ true
  pub centers_are_short : centers_short lanes ≡ true
  pub stops_sorted : sorted_table max_stop_lines stop_line_words stops ≡ true
  pub stops_short : all_short stop_line_words stop_line_start stops ≡ true
  pub crosswalks_are_sorted : sorted_table max_crosswalks crosswalk_words crosswalks ≡ true
  pub lefts_short : all_short crosswalk_words crosswalk_left_start crosswalks ≡ true
  pub rights_short : all_short crosswalk_words crosswalk_right_start crosswalks ≡ true
  pub left_few : side_points s.left ≤ 512
  pub right_few : side_points s.right ≤ 512
  pub center_few : center_points center ≤ 512

-- and no more boundaries go than there are
pub record Countable (lanes : List ℕ) (i j : ℕ) (boundaries stops crosswalks : List ℕ) (p : Plan) (gone : List ℕ) : Type 0 where
  pub counting : Counting lanes i j boundaries stops crosswalks (sides_of lanes i p) p.center
  pub few : length gone ≤ word row_count boundaries
