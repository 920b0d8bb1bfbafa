-- What a merge writes to the tables with lines, in words. Nothing that a host calls rests on this page; the laws in proofs/ tie it to `laid` and the rules.
use Rattle.std.specs.Prelude.{ℕ, ◌<◌, ◌≤◌, ◌≡◌, Bool, true, cond, List, [], ◌∷◌, reverse, eqb, length, Float, Option, None, Some, unwrap_or}
use Rattle.lists.specs.Rows.{over}
use Rattle.polyline.specs.Polyline.{concat}
use Rattle.entities.specs.Records.{Line}
use Rattle.rules.specs.Names.{Side}
use Rattle.lists.specs.Select.{has, place, ascending}
use Rattle.tables.specs.View.{word, mark, ids_at, line_at}
use Rattle.tables.specs.Formed.{counted, lane_formed}
use Rattle.mentions.specs.Naming.{lane_forgets}
use Rattle.lookup.specs.Lookup.{row_at, points_or, sorted_table, side_line, centers_stored, Drawable}
use Rattle.store.specs.Rows.{keyed, set_list}
use Rattle.merge_draw.specs.declared.DrawnLine.{DrawnLine}
use Rattle.merge_draw.specs.declared.Taken.{Taken}
use Rattle.tables.specs.Columns.{lane_centerline, lane_centerline_start, lane_left, lane_words, predecessors_at, row_count, row_id, successors_at}
use Rattle.rules.specs.Limits.{max_lanes}

-- ---- lines

-- how many points are counted
abbrev pub count_in : Option ℕ → ℕ
count_in found = unwrap_or found 0

-- the lines of two lanes' boundaries on a side along the lanes, joined; the lanes are in rows i and j
abbrev pub joined_side : Float → List Float → List ℕ → List ℕ → ℕ → ℕ → Side → Line
joined_side join c lanes boundaries i j side = concat join (points_or (side_line c lanes boundaries i side)) (points_or (side_line c lanes boundaries j side))

-- a line as it is stored: backwards where the lane runs against it
abbrev pub stored_line : Bool → Line → Line
stored_line back l = cond back (reverse l) l

-- what drawing asks: rows i and j of lanes, and room for the longest joined line
pub record Joinable (lanes boundaries : List ℕ) (i j : ℕ) (c out : List Float) : Type 0 where
  pub drawable : Drawable lanes boundaries c
  pub first : i < word row_count lanes
  pub second : j < word row_count lanes
  pub room : 1536 ≤ length out

-- the explicit centrelines in rows i and j, joined
abbrev pub joined_centers : Float → List Float → List ℕ → ℕ → ℕ → Line
joined_centers join c lanes i j = concat join (line_at c lane_centerline_start (row_at lane_words lanes i)) (line_at c lane_centerline_start (row_at lane_words lanes j))

-- both lanes have one
pub record Centered (lanes : List ℕ) (i j : ℕ) (c out : List Float) : Type 0 where
  pub sorted : sorted_table max_lanes lane_words lanes ≡ true
  pub centers : centers_stored c lanes ≡ true
  pub first : i < word row_count lanes
  pub second : j < word row_count lanes
  pub first_has : mark lane_centerline (row_at lane_words lanes i) ≡ true
  pub second_has : mark lane_centerline (row_at lane_words lanes j) ≡ true
  pub room : 1536 ≤ length out

-- ---- boundaries

-- the row of boundary `id` points to its line
abbrev pub pointed_row : ℕ → ℕ → ℕ → List ℕ → List ℕ
pointed_row id start size = keyed id (λ w. over w lane_left (start ∷ size ∷ []))

-- the row of a new boundary
abbrev pub boundary_row : ℕ → ℕ → ℕ → ℕ → ℕ → List ℕ
boundary_row id kind start size attributes = id ∷ kind ∷ start ∷ size ∷ attributes ∷ []

-- rows as they are given
abbrev pub as_given : List ℕ → List ℕ → List ℕ
as_given w r = r

-- ---- lanes

-- a lane's row whose predecessors ascend
abbrev pub Linked : List ℕ → Type 0
Linked w = (length w ≡ 52) × ((lane_formed w ≡ true) × (ascending (ids_at predecessors_at w) ≡ true))

-- every lane forgets the second; who came from it comes from the first
abbrev pub comes_from : ℕ → ℕ → List ℕ → List ℕ
comes_from first second w = let f = lane_forgets second w in cond (has second (ids_at predecessors_at w)) (set_list predecessors_at (place first (ids_at predecessors_at f)) f) f

-- a reference to a new boundary, which is forward
abbrev pub ref_onto : Option ℕ → ℕ → List ℕ → List ℕ
ref_onto None k w = w
ref_onto (Some id) k w = over w k (id ∷ 0 ∷ [])

-- an explicit centreline; one that is dropped leaves its words
abbrev pub center_onto : Option DrawnLine → List ℕ → List ℕ
center_onto None w = over w lane_centerline (0 ∷ [])
center_onto (Some l) w = over w lane_centerline (1 ∷ l.start ∷ l.size ∷ [])

-- the first takes the new boundaries, the joined centreline and the second's successors
abbrev pub takes_over : Taken → List ℕ → List ℕ → List ℕ
takes_over k succ w = set_list successors_at succ (center_onto k.center (ref_onto k.right 4 (ref_onto k.left 2 w)))

-- a lane's row after the merge
abbrev pub row_merged : ℕ → ℕ → Taken → List ℕ → List ℕ → List ℕ
row_merged first second k succ w = let f = comes_from first second w in cond (eqb (word row_id w) first) (takes_over k succ f) f

-- what the rows of a lane table ask
pub record LanesLinked (t : List ℕ) : Type 0 where
  pub counts : counted max_lanes lane_words t ≡ true
  pub rows : (j : ℕ) → j < word row_count t → Linked (row_at lane_words t j)
