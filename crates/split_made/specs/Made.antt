-- A split that is decided, in words: whether the map after it has room, what the tables and lists hold at its end, and its answer. Nothing that a host calls
-- rests on this page; the laws of split_facts tie it to the rules.
use Rattle.std.specs.Prelude.{◌≡◌, ℕ, ◌+◌, ◌*◌, ◌^◌, ◌≤◌, ◌<◌, Bool, ◌&&◌, cond, List, length, Option, None, Some, Err}
use Rattle.lists.specs.Rows.{row_with}
use Rattle.entities.specs.Records.{Issue}
use Rattle.rules.specs.Names.{EntityRef, NoRoom}
use Rattle.rules.specs.Limits.{max_boundaries, max_lanes}
use Rattle.tables.specs.View.{Tables, rows}
use Rattle.tables.specs.Columns.{junction_lanes_at, junction_words, road_lanes_at, road_words, rule_words}
use Rattle.row_tests.specs.Good.{all_rows}
use Rattle.store.specs.Rows.{on_rows}
use Rattle.layout.specs.Layout.{line_tables}
use Rattle.report.specs.Report.{listed, warned, Answer, changed, divided}
use Rattle.report.specs.declared.Counts.{Counts}
use Rattle.room.specs.Room.{points_fit, lists_fit}
use Rattle.grows.specs.Growing.{Grows, grows_at}
use Rattle.follows.specs.Following.{Follows, rules_follow}
use Rattle.split_room.specs.Fitting.{Counting, ListsOf, RulesOf, list_fits, pieces_fit, points_after, rules_fit}
use Rattle.split_lists.specs.Changes.{Beside, created_by, warnings_by}
use Rattle.split_relay.specs.Relaying.{Cutting, Relayable, blank, drawn_points, relaid, work_floats}
use Rattle.split_touched.specs.Modified.{Modifiable, Told, Rows, modified_of, rows_of, told}
use Rattle.split_made.specs.declared.Drawn.{Drawn}

-- the tables with lines, and those whose rows are marked
abbrev pub lined : Tables → Tables
lined t = line_tables t.lanes t.boundaries t.stop_lines t.crosswalks t.coordinates

abbrev pub rows_in : Tables → Rows
rows_in t = rows_of t.lanes t.boundaries t.roads t.junctions t.rules

abbrev pub told_by : Cutting → List Bool → List Bool → Told
told_by k anchored past = told k.cut k.marks k.pieces anchored past

-- ---- room

-- pieces, points and lists keep their limits and the lent lengths, by the measures
abbrev pub fits_after : Cutting → List Bool → Tables → Bool
fits_after k anchored t =
    ((pieces_fit k.lines 0 k.many && pieces_fit k.centers 0 (length k.cut))
    && points_fit (points_after k.pieces k.lines k.centers k.marks k.seen t.lanes t.boundaries t.stop_lines t.crosswalks) t.coordinates)
    && ((all_rows road_words (list_fits k.cut road_lanes_at) t.roads && all_rows junction_words (list_fits k.cut junction_lanes_at) t.junctions)
    && rules_fit anchored k.cut 0 (rows rule_words (λ w. w) t.rules))

pub record Fittable (k : Cutting) (anchored : List Bool) (t : Tables) : Type 0 where
  pub lines : k.many * 3 ≤ length k.lines
  pub centers : length k.cut * 3 ≤ length k.centers
  pub counting : Counting k.pieces k.lines k.centers k.marks k.seen t.lanes t.boundaries t.stop_lines t.crosswalks
  pub roads : ListsOf road_words road_lanes_at k.cut t.roads
  pub junctions : ListsOf junction_words junction_lanes_at k.cut t.junctions
  pub rules : RulesOf anchored k.cut t.rules

-- ---- tables

-- lines laid out anew; roads, junctions, priority and yielding grow; a rule's own lanes follow its anchor
unfoldable pub tables_cut : Cutting → ℕ → List Bool → List Bool → Tables → Tables
tables_cut k points anchored past t =
    let ls = relaid k (blank (work_floats (length k.cut) points)) (lined t) in
    record {
      lanes = ls.lanes;
      boundaries = ls.boundaries;
      roads = on_rows road_words (grows_at k.next k.cut road_lanes_at) t.roads;
      junctions = on_rows junction_words (grows_at k.next k.cut junction_lanes_at) t.junctions;
      rules = rules_follow anchored past k.next k.cut t.rules;
      stop_lines = ls.stop_lines;
      crosswalks = ls.crosswalks;
      coordinates = ls.coordinates;
    }

pub record Writable (k : Cutting) (points : ℕ) (anchored past : List Bool) (t : Tables) : Type 0 where
  pub roads : Grows k.next k.cut road_words road_lanes_at t.roads
  pub junctions : Grows k.next k.cut junction_words junction_lanes_at t.junctions
  pub rules : Follows anchored past k.next k.cut t.rules
  pub lines : Relayable k (lined t)
  pub drawn : points ≡ drawn_points k (lined t)

-- ---- lists

abbrev pub modified_in : Cutting → List Bool → List Bool → Tables → List EntityRef
modified_in k anchored past t = modified_of (told_by k anchored past) (rows_in t)

abbrev pub warnings_in : Cutting → Tables → List Issue
warnings_in k t = warnings_by k.pieces k.many k.cut k.next k.seen t.lanes

abbrev pub counts_of : ℕ → Cutting → List Bool → List Bool → Tables → Counts
counts_of ids k anchored past t =
    record {
      created = ids + length k.cut;
      modified = length (modified_in k anchored past t);
      deleted = 0;
      warnings = length (warnings_in k t);
    }

-- the lists that are lent; none is deleted
pub record Noted : Type 0 where
  pub created : List ℕ
  pub modified : List ℕ
  pub warnings : List ℕ

abbrev pub noted : List ℕ → List ℕ → List ℕ → Noted
noted created modified warnings = record { created = created; modified = modified; warnings = warnings }

abbrev pub lists_written : ℕ → ℕ → Cutting → List Bool → List Bool → Tables → Noted → Noted
lists_written first ids k anchored past t w =
    noted (listed w.created (created_by first ids (length k.cut))) (listed w.modified (modified_in k anchored past t)) (warned w.warnings (warnings_in k t))

-- what counting and listing ask
pub record Notable (first ids : ℕ) (k : Cutting) (anchored past : List Bool) (t : Tables) : Type 0 where
  pub modifiable : Modifiable (told_by k anchored past) (rows_in t)
  pub pieces : k.many * 3 ≤ length k.pieces
  pub few : k.many ≤ max_boundaries
  pub beside : Beside k.cut k.next k.seen t.lanes
  pub ids_are_left : first + (ids + length k.cut) < 2 ^ 64
  pub ids_few : ids ≤ 8192
  pub cut_few : length k.cut ≤ max_lanes

-- the lists have room
pub record Listable (first ids : ℕ) (k : Cutting) (anchored past : List Bool) (t : Tables) (w : Noted) : Type 0 where
  pub notable : Notable first ids k anchored past t
  pub created : (ids + length k.cut) * 2 ≤ length w.created
  pub modified : length (modified_in k anchored past t) * 2 ≤ length w.modified
  pub warnings : length (warnings_in k t) * 10 ≤ length w.warnings

-- ---- the end

-- the answer names the second half of the lane that was to be split
abbrev pub answer_of : Counts → ℕ → Option ℕ → Answer
answer_of n next (Some r) = divided n (next + r)
answer_of n next None = changed n

-- what a call leaves, its counter aside
pub record Left : Type 0 where
  pub tables : Tables
  pub created : List ℕ
  pub modified : List ℕ
  pub deleted : List ℕ
  pub warnings : List ℕ
  pub answer : Answer

abbrev pub left : Tables → List ℕ → List ℕ → List ℕ → List ℕ → Answer → Left
left t created modified deleted warnings answer =
    record { tables = t; created = created; modified = modified; deleted = deleted; warnings = warnings; answer = answer }

unfoldable pub split_made : Drawn → Cutting → List Bool → List Bool → Tables → List ℕ → List ℕ → List ℕ → List ℕ → Left
split_made d k anchored past t created modified deleted warnings =
    let n = counts_of d.ids k anchored past t in
    let w = lists_written d.first d.ids k anchored past t (noted created modified warnings) in
    cond (lists_fit n created modified deleted warnings)
    (left (tables_cut k d.points anchored past t) w.created w.modified deleted w.warnings (answer_of n k.next (row_with d.own k.cut)))
    (left t created modified deleted warnings (Err NoRoom))

pub record Makeable (d : Drawn) (k : Cutting) (anchored past : List Bool) (t : Tables) : Type 0 where
  pub writable : Writable k d.points anchored past t
  pub notable : Notable d.first d.ids k anchored past t
