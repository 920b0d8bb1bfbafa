-- The tables with lines as a merge leaves them, in words: joined lines drawn into an array of work, rows that point there, and the layout. Nothing that a host calls rests on this page; the laws of merge_laid tie it to `laid` and the rules.
use Rattle.std.specs.Prelude.{ℕ, ◌+◌, ◌*◌, ◌^◌, ◌≤◌, ◌<◌, ◌≡◌, Bool, true, false, not, cond, List, [], ◌∷◌, length, replicate, Float, Option, None, Some, is_some}
use Rattle.std.specs.Float.{binary64}
use Rattle.std.specs.Float.Ieee.{of_bits}
use Rattle.lists.specs.Rows.{over}
use Rattle.lists.specs.Select.{has}
use Rattle.polyline.specs.Polyline.{flat}
use Rattle.entities.specs.Records.{Line}
use Rattle.rules.specs.Names.{Side, Left, Right}
use Rattle.rules.specs.Limits.{max_boundaries, max_lanes, max_points}
use Rattle.tables.specs.View.{Tables, word, mark, ids_at, ref_at}
use Rattle.tables.specs.Formed.{counted}
use Rattle.tables.specs.Columns.{boundary_attributes, boundary_kind, boundary_words, lane_centerline, lane_words, row_count, row_id, successors_at}
use Rattle.store.specs.Rows.{kept_rows, on_rows, appended_rows}
use Rattle.layout.specs.Layout.{line_tables, sourced, gathered, Gatherable}
use Rattle.lookup.specs.Lookup.{row_at, place_of, side_word, sorted_table, centers_stored, Drawable}
use Rattle.merge_plan.specs.declared.Joined.{Joined}
use Rattle.merge_plan.specs.declared.Joined.TheVariants.{Kept, InPlace, Fresh}
use Rattle.merge_plan.specs.declared.Plan.{Plan}
pub use Rattle.merge_plan.specs.Sides.{side_points, side_ids}
use Rattle.merge_draw.specs.declared.DrawnLine.{DrawnLine}
use Rattle.merge_draw.specs.declared.Taken.{Taken}
use Rattle.merge_draw.specs.Redrawing.{joined_side, joined_centers, stored_line, pointed_row, boundary_row, as_given, row_merged, LanesLinked}
use Rattle.merge_redraw.specs.declared.Redrawn.{Redrawn}

-- ---- lines

abbrev pub is_kept : Joined → Bool
is_kept Kept = true
is_kept (InPlace n) = false
is_kept (Fresh n) = false

-- "In place, a reversed reference stores the joined line reversed; a new boundary stores it forward."
abbrev pub turned : Joined → Bool → Bool
turned Kept reversed = false
turned (InPlace n) reversed = reversed
turned (Fresh n) reversed = false

-- what a side draws
abbrev pub side_floats : Joined → Bool → Line → List Float
side_floats p reversed l = cond (is_kept p) [] (flat (stored_line (turned p reversed) l))

abbrev pub side_drawn : Float → List Float → List ℕ → List ℕ → ℕ → ℕ → Side → Joined → List Float
side_drawn join c lanes boundaries i j side p = side_floats p (ref_at (side_word side) (row_at lane_words lanes i)).reversed (joined_side join c lanes boundaries i j side)

abbrev pub center_drawn : Float → List Float → List ℕ → ℕ → ℕ → Option ℕ → List Float
center_drawn join c lanes i j o = cond (is_some o) (flat (joined_centers join c lanes i j)) []

-- where the lines lie, in points, the first of them from `at` on: the left one, then the right one, then the centreline
abbrev pub right_at : Plan → ℕ → ℕ
right_at p at = at + side_points p.left

abbrev pub center_at : Plan → ℕ → ℕ
center_at p at = right_at p at + side_points p.right

-- the lines of the merge, one after another in an array of work
unfoldable pub drawn_lines : Float → List Float → List ℕ → List ℕ → ℕ → ℕ → Plan → List Float → List Float
drawn_lines join c lanes boundaries i j p work =
    let left = over work 0 (side_drawn join c lanes boundaries i j Left p.left) in
    let right = over left (right_at p 0 * 3) (side_drawn join c lanes boundaries i j Right p.right) in
    over right (center_at p 0 * 3) (center_drawn join c lanes i j p.center)

-- ---- boundaries

-- the row of a boundary, where it is found
abbrev pub row_found : List ℕ → Option ℕ → List ℕ
row_found t (Some x) = row_at boundary_words t x
row_found t None = []

-- what a side does to the table of boundaries: the first lane's boundary, and of a new one its id, with kind and attributes of the first lane's
abbrev pub redrawn_of : List ℕ → ℕ → Side → List ℕ → Joined → ℕ → ℕ → Redrawn
redrawn_of lanes i side boundaries p id start =
    let b = (ref_at (side_word side) (row_at lane_words lanes i)).boundary in
    let w = row_found boundaries (place_of boundary_words boundaries b) in
    record { plan = p; boundary = b; id = id; kind = word boundary_kind w; attributes = word boundary_attributes w; start = start }

-- a boundary that is joined in place points to its line
abbrev pub pointed_by : Joined → ℕ → ℕ → List ℕ → List ℕ
pointed_by Kept b start t = t
pointed_by (InPlace n) b start t = on_rows boundary_words (pointed_row b start n) t
pointed_by (Fresh n) b start t = t

abbrev pub side_pointed : Redrawn → List ℕ → List ℕ
side_pointed r t = pointed_by r.plan r.boundary r.start t

-- a new one comes behind the last row
abbrev pub added_by : Joined → Redrawn → List ℕ → List ℕ
added_by Kept r t = t
added_by (InPlace n) r t = t
added_by (Fresh n) r t = appended_rows boundary_words as_given (boundary_row r.id r.kind r.start n r.attributes ∷ []) t

abbrev pub side_added : Redrawn → List ℕ → List ℕ
side_added r t = added_by r.plan r t

-- the rows that stay
abbrev pub boundaries_left : List ℕ → List ℕ → List ℕ
boundaries_left gone t = kept_rows boundary_words (λ i. not (has i gone)) t

-- those that go, go first; where both sides join one boundary in place the right one's line stands
unfoldable pub boundaries_redrawn : List ℕ → Redrawn → Redrawn → List ℕ → List ℕ
boundaries_redrawn gone l r t = side_added r (side_added l (side_pointed r (side_pointed l (boundaries_left gone t))))

-- the table keeps its count, and has room for the new rows
pub record Redrawable (gone : List ℕ) (l r : Redrawn) (t : List ℕ) : Type 0 where
  pub counts : counted max_boundaries boundary_words t ≡ true
  pub room : 1 + (word row_count (boundaries_left gone t) + (side_ids l.plan + side_ids r.plan)) * boundary_words ≤ length t

-- ---- lanes

-- the id of a side's new boundary, where it has one
abbrev pub fresh_id : Joined → ℕ → Option ℕ
fresh_id Kept id = None
fresh_id (InPlace n) id = None
fresh_id (Fresh n) id = Some id

-- the joined centreline, where there is one, from its count of points
abbrev pub center_line : Option ℕ → ℕ → Option DrawnLine
center_line None start = None
center_line (Some n) start = Some (record { start = start; size = n })

-- what the first lane takes over; `next` is the next id
abbrev pub taken_of : Plan → ℕ → ℕ → Taken
taken_of p next reach = record { left = fresh_id p.left next; right = fresh_id p.right (next + side_ids p.left); center = center_line p.center (center_at p reach) }

-- the second lane's row goes first
unfoldable pub lanes_redrawn : ℕ → ℕ → Taken → List ℕ → List ℕ → List ℕ
lanes_redrawn first second taken successors t = on_rows lane_words (row_merged first second taken successors) (kept_rows lane_words (λ i. not (has i (second ∷ []))) t)

-- ---- all of it

-- the tables with lines; rows point to the lines of the merge as if these lay behind point `reach` of the coordinates
unfoldable pub redrawn_tables : Plan → ℕ → ℕ → List ℕ → ℕ → ℕ → Tables → Tables
redrawn_tables p next reach gone i j t =
    let b = row_at lane_words t.lanes j in
    line_tables
    (lanes_redrawn (word row_id (row_at lane_words t.lanes i)) (word row_id b) (taken_of p next reach) (ids_at successors_at b) t.lanes)
    (boundaries_redrawn gone (redrawn_of t.lanes i Left t.boundaries p.left next reach) (redrawn_of t.lanes i Right t.boundaries p.right (next + side_ids p.left) (right_at p reach)) t.boundaries)
    t.stop_lines
    t.crosswalks
    t.coordinates

-- and laid out anew
unfoldable pub relaid : Float → Plan → ℕ → ℕ → List ℕ → ℕ → ℕ → List Float → Tables → Tables
relaid join p next reach gone i j work t =
    gathered (sourced reach t.coordinates (drawn_lines join t.coordinates t.lanes t.boundaries i j p work)) (redrawn_tables p next reach gone i j t)

-- the array of work: room for three lines of two times 256 points
abbrev pub work_floats : ℕ
work_floats = 4608

abbrev pub blank : List Float
blank = replicate work_floats (of_bits binary64 0)

-- ---- what is asked

-- of drawing: each drawn line has room in the work
pub record Drawing (c : List Float) (lanes boundaries : List ℕ) (i j : ℕ) (p : Plan) (work : List Float) : Type 0 where
  pub drawable : Drawable lanes boundaries c
  pub first : i < word row_count lanes
  pub second : j < word row_count lanes
  pub left_few : side_points p.left ≤ 512
  pub right_few : side_points p.right ≤ 512
  pub room : work_floats ≤ length work
  pub centered : is_some p.center ≡ true → (mark lane_centerline (row_at lane_words lanes i) ≡ true) × (mark lane_centerline (row_at lane_words lanes j) ≡ true)

-- of drawing the centreline
pub record CenterDrawing (c : List Float) (lanes : List ℕ) (i j : ℕ) (center : Option ℕ) (work : List Float) (at : ℕ) : Type 0 where
  pub sorted : sorted_table max_lanes lane_words lanes ≡ true
  pub centers : centers_stored c lanes ≡ true
  pub first : i < word row_count lanes
  pub second : j < word row_count lanes
  pub marked : is_some center ≡ true → (mark lane_centerline (row_at lane_words lanes i) ≡ true) × (mark lane_centerline (row_at lane_words lanes j) ≡ true)
  pub room : (at + 512) * 3 ≤ length work

-- of the whole, for any array of work
pub record Relayable (join : Float) (p : Plan) (next reach : ℕ) (gone : List ℕ) (i j : ℕ) (t : Tables) : Type 0 where
  pub near : reach ≤ max_points
  pub stored : reach * 3 ≤ length t.coordinates
  pub ids : next + side_ids p.left < 2 ^ 64
  pub drawing : (work : List Float) → length work ≡ work_floats → Drawing t.coordinates t.lanes t.boundaries i j p work
  pub linked : LanesLinked t.lanes
  pub redrawable : Redrawable gone (redrawn_of t.lanes i Left t.boundaries p.left next reach) (redrawn_of t.lanes i Right t.boundaries p.right (next + side_ids p.left) (right_at p reach)) t.boundaries
  pub gatherable : (work : List Float) → length work ≡ work_floats
      → Gatherable (sourced reach t.coordinates (drawn_lines join t.coordinates t.lanes t.boundaries i j p work)) (redrawn_tables p next reach gone i j t)
