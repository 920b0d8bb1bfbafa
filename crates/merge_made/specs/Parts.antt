-- merge_lanes in words: what the lent slices hold at its end, once the lanes are found and both sides planned. Nothing that a host calls rests on this page.
use Rattle.std.specs.Prelude.{◌≡◌, ℕ, ◌+◌, ◌*◌, ◌^◌, ◌≤◌, ◌<◌, true, cond, List, [], length, Float}
use Rattle.lists.specs.Every.{all}
use Rattle.rules.specs.Names.{Left, Right, BoundaryKind, NoRoom, NoIds}
use Rattle.rules.specs.Limits.{max_points}
use Rattle.rules.specs.Sound.{next_id}
use Rattle.rules.specs.Edit.{refs, up_from}
use Rattle.rules.specs.Ops.{counter_after}
use Rattle.tables.specs.View.{Tables, word}
use Rattle.tables.specs.Formed.{spans}
use Rattle.tables.specs.Columns.{junction_words, lane_words, road_words, row_id, rule_words}
use Rattle.apart.specs.Marks.{within}
use Rattle.store.specs.Rows.{on_rows}
use Rattle.layout.specs.Layout.{line_tables, counted_lines, last_point}
use Rattle.lookup.specs.Lookup.{row_at}
use Rattle.report.specs.Report.{listed, warned, changed}
use Rattle.report.specs.declared.Counts.{Counts}
use Rattle.mentions.specs.declared.Rows.TheVariants.{Roads, Junctions, Rules}
use Rattle.mentions.specs.Naming.{table_formed, forgets, rule_replaces}
use Rattle.room.specs.Room.{ids_left, lists_fit}
use Rattle.merge_plan.specs.declared.Plan.{Plan}
use Rattle.merge_plan.specs.Sides.{side_ids, side_id}
use Rattle.merge_gone.specs.Leaving.{Leaving, Countable, gone_of, fits_after}
use Rattle.merge_lists.specs.declared.Notices.{Notices}
use Rattle.merge_lists.specs.Changes.{Formed, Looked, touched, leaving, issues_of, joined_ids, warnings_of}
use Rattle.merge_redraw.specs.Relaying.{Relayable, relaid, blank}
use Rattle.step.specs.Step.{Lent, Ended, ended, refusing}

-- ---- lists

abbrev pub counts_of : ℕ → Plan → ℕ → List ℕ → ℕ → List ℕ → List ℕ → List ℕ → List ℕ → Counts
counts_of second p gone joined warnings lanes roads junctions rules =
    record {
      created = side_ids p.left + side_ids p.right;
      modified = length (touched second joined lanes roads junctions rules);
      deleted = gone + 1;
      warnings = warnings;
    }

-- the four lists that are lent
pub record Answered : Type 0 where
  pub created : List ℕ
  pub modified : List ℕ
  pub deleted : List ℕ
  pub warnings : List ℕ

abbrev pub lists : List ℕ → List ℕ → List ℕ → List ℕ → Answered
lists created modified deleted warnings = record { created = created; modified = modified; deleted = deleted; warnings = warnings }

abbrev pub lists_written : ℕ → ℕ → ℕ → List ℕ → List ℕ → Notices → List ℕ → List ℕ → List ℕ → List ℕ → Answered → Answered
lists_written second next ids gone joined notices lanes roads junctions rules a =
    lists
    (listed a.created (refs BoundaryKind (up_from next ids)))
    (listed a.modified (touched second joined lanes roads junctions rules))
    (listed a.deleted (leaving second gone))
    (warned a.warnings (issues_of notices))

-- they have room
pub record Listable (second next ids : ℕ) (gone joined : List ℕ) (notices : Notices) (lanes roads junctions rules created modified deleted warnings : List ℕ) : Type 0 where
  pub formed : Formed lanes roads junctions rules
  pub ids_are_left : next + ids ≤ 2 ^ 64
  pub created_room : ids * 2 ≤ length created
  pub modified_room : length (touched second joined lanes roads junctions rules) * 2 ≤ length modified
  pub deleted_room : length (leaving second gone) * 2 ≤ length deleted
  pub warnings_room : length (issues_of notices) * 10 ≤ length warnings

-- ---- roads, junctions, rules

pub record Naming : Type 0 where
  pub roads : List ℕ
  pub junctions : List ℕ
  pub rules : List ℕ

abbrev pub named : List ℕ → List ℕ → List ℕ → Naming
named roads junctions rules = record { roads = roads; junctions = junctions; rules = rules }

-- roads and junctions lose the second lane, in the rules it reads as the first
abbrev pub named_written : ℕ → ℕ → Naming → Naming
named_written first second n =
    named (on_rows road_words (forgets Roads second) n.roads) (on_rows junction_words (forgets Junctions second) n.junctions) (on_rows rule_words (rule_replaces first second) n.rules)

pub record Named (rs js us : List ℕ) : Type 0 where
  pub roads : table_formed Roads rs ≡ true
  pub junctions : table_formed Junctions js ≡ true
  pub rules : table_formed Rules us ≡ true

-- ---- all tables

abbrev pub lined : Tables → Tables
lined t = line_tables t.lanes t.boundaries t.stop_lines t.crosswalks t.coordinates

-- how far lines reach; coordinates have no part in it
abbrev pub reach_of : Tables → ℕ
reach_of t = last_point (spans (line_tables t.lanes t.boundaries t.stop_lines t.crosswalks []))

abbrev pub named_in : Tables → Naming
named_in t = named t.roads t.junctions t.rules

unfoldable pub written : Float → Plan → ℕ → List ℕ → ℕ → ℕ → Tables → Tables
written join p next gone i j t =
    let ls = relaid join p next (reach_of t) gone i j blank (lined t) in
    let n = named_written (word row_id (row_at lane_words t.lanes i)) (word row_id (row_at lane_words t.lanes j)) (named_in t) in
    record {
      lanes = ls.lanes;
      boundaries = ls.boundaries;
      roads = n.roads;
      junctions = n.junctions;
      rules = n.rules;
      stop_lines = ls.stop_lines;
      crosswalks = ls.crosswalks;
      coordinates = ls.coordinates;
    }

pub record Writable (join : Float) (p : Plan) (next : ℕ) (gone : List ℕ) (i j : ℕ) (t : Tables) : Type 0 where
  pub looked : Looked t.lanes i j
  pub counts : counted_lines (line_tables t.lanes t.boundaries t.stop_lines t.crosswalks []) ≡ true
  pub reaching : all (within max_points) (spans (line_tables t.lanes t.boundaries t.stop_lines t.crosswalks [])) ≡ true
  pub naming : Named t.roads t.junctions t.rules
  pub relayable : Relayable join p next (reach_of t) gone i j (lined t)

-- ---- the edit

-- made, where the map and the lists have room
unfoldable pub merge_made : Float → ℕ → ℕ → Plan → List ℕ → List ℕ → Lent → Ended
merge_made join i j p gone joined l =
    let t = l.tables in
    let next = next_id l.counter in
    let second = word row_id (row_at lane_words t.lanes j) in
    let ws = warnings_of t.lanes i j p.left p.right next in
    let n = counts_of second p (length gone) joined (length ws) t.lanes t.roads t.junctions t.rules in
    cond (fits_after t.lanes i j t.boundaries t.stop_lines t.crosswalks t.coordinates p gone)
    (cond (lists_fit n l.created l.modified l.deleted l.warnings)
    (ended
    (record {
      counter = counter_after l.counter n.created;
      tables = written join p next gone i j t;
      created = listed l.created (refs BoundaryKind (up_from next n.created));
      modified = listed l.modified (touched second joined t.lanes t.roads t.junctions t.rules);
      deleted = listed l.deleted (leaving second gone);
      warnings = warned l.warnings ws;
    })
    (changed n))
    (refusing l NoRoom))
    (refusing l NoRoom)

-- ids first; what goes and what is joined in place is found from the rows
abbrev pub gone_in : Tables → ℕ → ℕ → Plan → List ℕ
gone_in t i j p = gone_of t.lanes i j p.left p.right t.boundaries

abbrev pub joined_in : Tables → ℕ → Plan → List ℕ
joined_in t i p = joined_ids p.left (side_id t.lanes i Left) p.right (side_id t.lanes i Right)

unfoldable pub merge_found : Float → ℕ → ℕ → Plan → Lent → Ended
merge_found join i j p l =
    cond (ids_left l.counter (side_ids p.left + side_ids p.right)) (merge_made join i j p (gone_in l.tables i j p) (joined_in l.tables i p) l) (refusing l NoIds)

-- ---- what is asked

-- once the ids are there and all is found
pub record Decided (counter : ℕ) (join : Float) (i j : ℕ) (p : Plan) (gone joined : List ℕ) (t : Tables) : Type 0 where
  pub formed : Formed t.lanes t.roads t.junctions t.rules
  pub looked : Looked t.lanes i j
  pub ids_are_left : next_id counter + (side_ids p.left + side_ids p.right) < 2 ^ 64
  pub gone_few : length gone ≤ 4
  pub joined_few : length joined ≤ 2
  pub countable : Countable t.lanes i j t.boundaries t.stop_lines t.crosswalks p gone
  pub writable : fits_after t.lanes i j t.boundaries t.stop_lines t.crosswalks t.coordinates p gone ≡ true → Writable join p (next_id counter) gone i j t

pub record MayMerge (counter : ℕ) (join : Float) (i j : ℕ) (p : Plan) (t : Tables) : Type 0 where
  pub leaving : Leaving t.lanes i j t.boundaries
  pub decided : ids_left counter (side_ids p.left + side_ids p.right) ≡ true → Decided counter join i j p (gone_in t i j p) (joined_in t i p) t
