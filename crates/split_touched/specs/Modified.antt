-- The entities that a split modifies, from marks by row of five tables. Nothing that a host calls rests on this page; the laws of split_facts tie it to the
-- rules.
use Rattle.std.specs.Prelude.{◌≡◌, ℕ, ◌*◌, ◌≤◌, Bool, true, false, List, length, replicate, take}
use Rattle.lists.specs.Rows.{over}
use Rattle.rules.specs.Names.{EntityRef}
use Rattle.rules.specs.Limits.{max_boundaries, max_ids, max_junctions, max_lanes, max_links, max_roads, max_rules}
use Rattle.tables.specs.View.{word}
use Rattle.tables.specs.Formed.{counted}
use Rattle.tables.specs.Columns.{boundary_words, junction_lanes_at, junction_words, lane_words, predecessors_at, road_lanes_at, road_words, row_count}
use Rattle.follows.specs.Following.{Marking, rule_marks}
use Rattle.split_marks.specs.Touched.{Named, alone_from, lane_marks, marked, row_marks}
use Rattle.split_lists.specs.Changes.{AllListed, modified_by}

-- the rows of five tables
pub record Rows : Type 0 where
  pub lanes : List ℕ
  pub boundaries : List ℕ
  pub roads : List ℕ
  pub junctions : List ℕ
  pub rules : List ℕ

abbrev pub rows_of : List ℕ → List ℕ → List ℕ → List ℕ → List ℕ → Rows
rows_of lanes boundaries roads junctions rules = record { lanes = lanes; boundaries = boundaries; roads = roads; junctions = junctions; rules = rules }

-- a mark for each of them
pub record Marks : Type 0 where
  pub lanes : List Bool
  pub boundaries : List Bool
  pub roads : List Bool
  pub junctions : List Bool
  pub rules : List Bool

abbrev pub marks_of : List Bool → List Bool → List Bool → List Bool → List Bool → Marks
marks_of lanes boundaries roads junctions rules = record { lanes = lanes; boundaries = boundaries; roads = roads; junctions = junctions; rules = rules }

-- w has as many marks as v
pub record AsLong (v w : Marks) : Type 0 where
  pub lanes : length w.lanes ≡ length v.lanes
  pub boundaries : length w.boundaries ≡ length v.boundaries
  pub roads : length w.roads ≡ length v.roads
  pub junctions : length w.junctions ≡ length v.junctions
  pub rules : length w.rules ≡ length v.rules

-- where nothing is marked yet
abbrev pub blank : Marks
blank = marks_of (replicate max_lanes false) (replicate max_boundaries false) (replicate max_roads false) (replicate max_junctions false) (replicate max_rules false)

-- what a split is told by: the cut lanes, the marks of the cut boundaries and their pieces, which rules have an anchor and past which cuts it lies
pub record Told : Type 0 where
  pub cut : List ℕ
  pub marks : List Bool
  pub pieces : List ℕ
  pub anchored : List Bool
  pub past : List Bool

abbrev pub told : List ℕ → List Bool → List ℕ → List Bool → List Bool → Told
told cut marks pieces anchored past = record { cut = cut; marks = marks; pieces = pieces; anchored = anchored; past = past }

-- lanes that are cut or came from one, boundaries that are cut and keep their ids, roads and junctions that name a cut lane, rules that differ
abbrev pub touched_by : Told → Rows → Marks → Marks
touched_by k t w =
    marks_of (over w.lanes 0 (lane_marks k.cut t.lanes)) (over w.boundaries 0 (alone_from k.pieces 0 (take (word row_count t.boundaries) k.marks)))
    (over w.roads 0 (row_marks k.cut road_words road_lanes_at t.roads)) (over w.junctions 0 (row_marks k.cut junction_words junction_lanes_at t.junctions))
    (over w.rules 0 (rule_marks k.anchored k.past k.cut t.rules))

-- those of marked rows
abbrev pub listed_by : Rows → Marks → List EntityRef
listed_by t w = modified_by w.lanes t.lanes w.boundaries t.boundaries w.roads t.roads w.junctions t.junctions w.rules t.rules

unfoldable pub modified_of : Told → Rows → List EntityRef
modified_of k t = listed_by t (touched_by k t blank)

-- ---- what is asked

-- tables and marks as their functions ask for them
pub record Touchable (k : Told) (t : Rows) (w : Marks) : Type 0 where
  pub lanes_named : Named lane_words predecessors_at max_links max_lanes k.cut t.lanes w.lanes
  pub boundaries_counted : counted max_boundaries boundary_words t.boundaries ≡ true
  pub boundaries_are_cut : word row_count t.boundaries ≤ length k.marks
  pub boundaries_marked : word row_count t.boundaries ≤ length w.boundaries
  pub pieces : marked (take (word row_count t.boundaries) k.marks) * 3 ≤ length k.pieces
  pub roads_named : Named road_words road_lanes_at max_ids 4096 k.cut t.roads w.roads
  pub junctions_named : Named junction_words junction_lanes_at max_ids 4096 k.cut t.junctions w.junctions
  pub rules_marked : Marking k.anchored k.past k.cut t.rules w.rules

-- and all of them can be listed, whatever is marked
abbrev pub AllRows : Rows → Marks → Type 0
AllRows t w = AllListed w.lanes w.boundaries w.roads w.junctions w.rules t.lanes t.boundaries t.roads t.junctions t.rules

pub record Modifiable (k : Told) (t : Rows) : Type 0 where
  pub touchable : Touchable k t blank
  pub every_row : AllRows t blank
