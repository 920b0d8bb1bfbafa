-- The net lists of a job as the rows of the two ends give them. Nothing that a host calls rests on these; their laws tie them to `net` (crate `jobs`).
use Rattle.std.specs.Prelude.{◌≡◌, ℕ, suc, Bool, not, ◌&&◌, cond, List, [], ◌∷◌, ◌++◌, eqb, ltb, length, get_or, drop}
use Rattle.lists.specs.Rows.{keys}
use Rattle.lists.specs.Select.{keep, has}
use Rattle.rules.specs.Names.{EntityRef, LaneKind, BoundaryKind, RoadKind, JunctionKind, StopLineKind, CrosswalkKind, RuleKind}
use Rattle.rules.specs.Edit.{refs, when}
use Rattle.tables.specs.View.{Tables, word, lane_words, boundary_words, road_words, junction_words, rule_words, stop_line_words, crosswalk_words}
use Rattle.report.specs.Report.{listed}
use Rattle.report.specs.declared.Counts.{Counts}
use Rattle.job_net.specs.declared.NetLists.{NetLists}
use Rattle.job_net.specs.declared.NetView.{NetView}
use Rattle.job_marks.specs.Marks.{lane_marks, boundary_marks, road_marks, junction_marks, stop_line_marks, crosswalk_marks, rule_marks}

-- the ids of a table
abbrev pub table_ids : ℕ → List ℕ → List ℕ
table_ids s t = keys s (word 0 t) (drop 1 t)

-- how many keys at the front are below an id
unfoldable pub below : ℕ → List ℕ → ℕ
below id [] = 0
below id (k ∷ ks) = cond (ltb k id) (suc (below id ks)) 0

-- those that the other list lacks
unfoldable pub absent_in : List ℕ → List ℕ → List ℕ
absent_in others ids = keep (λ i. not (has i others)) ids

-- those that have a mark and stand in the other list; the marks are those of the ids, one by one
unfoldable pub marked_in : List ℕ → List ℕ → List ℕ → List ℕ
marked_in others ms [] = []
marked_in others ms (i ∷ ids) = when (eqb (get_or ms 0 0) 1 && has i others) i ++ marked_in others (drop 1 ms) ids

-- the ones or the others: of what is kept those that have a mark, else those that the other list lacks
abbrev pub picked_in : Bool → List ℕ → List ℕ → List ℕ → List ℕ
picked_in kept others ms ids = cond kept (marked_in others ms ids) (absent_in others ids)

-- ---- all tables, in the order of kinds

-- what stands in the tables and not in the others
unfoldable pub only_in : Tables → Tables → List EntityRef
only_in t others =
    refs LaneKind (absent_in (table_ids lane_words others.lanes) (table_ids lane_words t.lanes))
    ++ (refs BoundaryKind (absent_in (table_ids boundary_words others.boundaries) (table_ids boundary_words t.boundaries))
    ++ (refs RoadKind (absent_in (table_ids road_words others.roads) (table_ids road_words t.roads))
    ++ (refs JunctionKind (absent_in (table_ids junction_words others.junctions) (table_ids junction_words t.junctions))
    ++ (refs StopLineKind (absent_in (table_ids stop_line_words others.stop_lines) (table_ids stop_line_words t.stop_lines))
    ++ (refs CrosswalkKind (absent_in (table_ids crosswalk_words others.crosswalks) (table_ids crosswalk_words t.crosswalks))
    ++ refs RuleKind (absent_in (table_ids rule_words others.rules) (table_ids rule_words t.rules)))))))

-- what has a mark and stands in both
unfoldable pub marked_both : Tables → Tables → List ℕ → List EntityRef
marked_both t others ms =
    refs LaneKind (marked_in (table_ids lane_words others.lanes) (drop lane_marks ms) (table_ids lane_words t.lanes))
    ++ (refs BoundaryKind (marked_in (table_ids boundary_words others.boundaries) (drop boundary_marks ms) (table_ids boundary_words t.boundaries))
    ++ (refs RoadKind (marked_in (table_ids road_words others.roads) (drop road_marks ms) (table_ids road_words t.roads))
    ++ (refs JunctionKind (marked_in (table_ids junction_words others.junctions) (drop junction_marks ms) (table_ids junction_words t.junctions))
    ++ (refs StopLineKind (marked_in (table_ids stop_line_words others.stop_lines) (drop stop_line_marks ms) (table_ids stop_line_words t.stop_lines))
    ++ (refs CrosswalkKind (marked_in (table_ids crosswalk_words others.crosswalks) (drop crosswalk_marks ms) (table_ids crosswalk_words t.crosswalks))
    ++ refs RuleKind (marked_in (table_ids rule_words others.rules) (drop rule_marks ms) (table_ids rule_words t.rules)))))))

abbrev pub all_picked : Bool → Tables → Tables → List ℕ → List EntityRef
all_picked kept t others ms = cond kept (marked_both t others ms) (only_in t others)

-- ---- the three lists

-- how many there are of each; `told` is how many warnings the job has
abbrev pub net_counts : Tables → Tables → List ℕ → ℕ → Counts
net_counts t old ms told =
    record { created = length (only_in t old); modified = length (marked_both old t ms); deleted = length (only_in old t); warnings = told }

-- each is written at the front of what is lent for it
abbrev pub NetListed : Tables → Tables → List ℕ → ℕ → List ℕ → List ℕ → List ℕ → Counts → List ℕ → List ℕ → List ℕ → Type 0
NetListed t old ms told created modified deleted n c m d =
    (n ≡ net_counts t old ms told)
    × ((c ≡ listed created (only_in t old)) × ((m ≡ listed modified (marked_both old t ms)) × (d ≡ listed deleted (only_in old t))))

-- ---- where they are written

-- a view of the lists has what they hold
pub record SeenAs (l : NetLists) (v : NetView) : Type 0 where
  pub created : v.created.now ≡ l.created.now
  pub modified : v.modified.now ≡ l.modified.now
  pub deleted : v.deleted.now ≡ l.deleted.now

-- n's fields are the slices of m, each as long as it was
pub record SameNet (m n : NetLists) : Type 0 where
  pub created : n.created.ghost_name ≡ m.created.ghost_name
  pub modified : n.modified.ghost_name ≡ m.modified.ghost_name
  pub deleted : n.deleted.ghost_name ≡ m.deleted.ghost_name
  pub created_length : length n.created.now ≡ length m.created.now
  pub modified_length : length n.modified.now ≡ length m.modified.now
  pub deleted_length : length n.deleted.now ≡ length m.deleted.now
