-- A split whose lanes are planned: what document 01 makes of it, and what is known of it from step to step. Nothing that a host calls rests on this page.
use Rattle.std.specs.Prelude.{◌≡◌, ℕ, ◌+◌, ◌^◌, ◌<◌, Bool, true, false, ◌&&◌, cond, List, map, leb, Float, length, replicate, Some, Ok}
use Rattle.lists.specs.Rows.{over}
use Rattle.lists.specs.Select.{keep, any, has}
use Rattle.entities.specs.Records.{Lane}
use Rattle.rules.specs.Names.{Tolerance, Point2, NoRoom, NoIds}
use Rattle.rules.specs.Limits.{max_boundaries, max_lanes}
use Rattle.rules.specs.Map.{uses}
use Rattle.rules.specs.Sound.{fits_room, last_counter, next_id}
use Rattle.rules.specs.Edit.{passed, Edited}
use Rattle.rules.specs.Split as R
use Rattle.rules.specs.Split.{LanePlan, Piece, group_of, lane_plans, all_cross, pieces}
use Rattle.rules.specs.Ops as O
use Rattle.tables.specs.View.{Tables, word, lane_of, view}
use Rattle.tables.specs.Formed.{sound_tables, spans}
use Rattle.tables.specs.Columns.{boundary_words, lane_words, row_count}
use Rattle.store.specs.Store.{room_of}
use Rattle.store.specs.Laid.{laid}
use Rattle.layout.specs.Layout.{line_tables, last_point}
use Rattle.lookup.specs.Lookup.{place_of}
use Rattle.report.specs.Report.{listed, warned, accepting}
use Rattle.step.specs.Step.{Lent, Ended, lists_of, refusing}
use Rattle.room.specs.Room.{ids_left, rows_fit}
use Rattle.split_plan.specs.Placing.{group_marks, marked_rows, plans_of}
use Rattle.split_pieces.specs.Pieces.{cut_marks, cut_keys, ids_of, piece_words}
use Rattle.split_lines.specs.Cut.{measured, drawn_pieces}
use Rattle.split_rules.specs.Past.{anchored_by, past_by}
use Rattle.split_relay.specs.Relaying.{Cutting, boundary_lines_of, center_lines_of}

-- ---- what document 01 makes of it

-- the lanes that are marked
abbrev pub lanes_in : Tables → List Bool → List Lane
lanes_in t seen = map (lane_of t.coordinates) (marked_rows seen t.lanes)

-- their plans, by their stations
abbrev pub plans_in : Tables → Point2 → List Bool → List Float → List LanePlan
plans_in t p seen stations = plans_of t.coordinates p (marked_rows seen t.lanes) stations

-- the pieces of their boundaries; `cut` are their ids
abbrev pub pieces_in : ℕ → Tables → Point2 → List Bool → List ℕ → List Piece
pieces_in counter t p seen cut = pieces cut (view t).lanes p (next_id counter) (keep (λ b. any (uses b.id) (lanes_in t seen)) (view t).boundaries)

-- the finished map and its change set
unfoldable pub split_of : Tolerance → ℕ → Tables → ℕ → Point2 → List Bool → List ℕ → List Float → Edited
split_of tol counter t own p seen cut stations = R.cut tol (next_id counter) (view t) own cut (plans_in t p seen stations) (pieces_in counter t p seen cut)

-- written back: all lines are laid out anew
abbrev pub written : Lent → Edited → Ended
written l e =
    record {
      lent =
          record {
            counter = O.counter_after l.counter e.ids;
            tables = laid l.tables e.result;
            created = listed l.created e.changes.created;
            modified = listed l.modified e.changes.modified;
            deleted = listed l.deleted e.changes.deleted;
            warnings = warned l.warnings e.changes.warnings;
          };
      answer = accepting e.changes e.second;
    }

-- 11, then the 10 of the map and of the lists
unfoldable pub split_ends : Tolerance → ℕ → Point2 → List Bool → List ℕ → List Float → Lent → Ended
split_ends tol own p seen cut stations l =
    let e = split_of tol l.counter l.tables own p seen cut stations in
    cond (leb (O.counter_after l.counter e.ids) last_counter)
    (cond (fits_room (room_of l.tables) e.result && O.fits_lists (lists_of l) e.changes) (written l e) (refusing l NoRoom))
    (refusing l NoIds)

-- ---- what is known

-- the group of lane `own` of a sound map is marked, each of its lanes has a plan, and their boundaries cross the cut
pub record Planned (tol : Tolerance) (counter : ℕ) (t : Tables) (own : ℕ) (p : Point2) (seen : List Bool) (cut : List ℕ) (stations : List Float) : Type 0 where
  pub sane : sound_tables counter t ≡ true
  pub small : counter < 2 ^ 64
  pub row : ℕ
  pub there : place_of lane_words t.lanes own ≡ Some row
  pub neighbors : Bool
  pub marked : seen ≡ over (replicate max_lanes false) 0 (group_marks t.lanes row neighbors)
  pub at : Float
  pub planned : lane_plans tol (view t) own at p (keep (λ x. has x.id (group_of (view t) own neighbors)) (view t).lanes) ≡ Ok (plans_in t p seen stations)
  pub crossed : all_cross (view t) p (keep (λ x. has x.id (group_of (view t) own neighbors)) (view t).lanes) ≡ Ok passed
  pub ids : map (λ x. x.of.id) (plans_in t p seen stations) ≡ cut
  pub stationed : map (λ x. x.station) (plans_in t p seen stations) ≡ stations
  pub many : length (marked_rows seen t.lanes) ≡ length cut

-- its boundaries are marked, and there are ids and rows for what is new
pub record Numbered (tol : Tolerance) (counter : ℕ) (t : Tables) (own : ℕ) (p : Point2) (seen : List Bool) (cut : List ℕ) (stations : List Float) (ids : ℕ) (marks : List Bool) : Type 0 where
  pub plan : Planned tol counter t own p seen cut stations
  pub marked : marks ≡ over (replicate max_boundaries false) 0 (cut_marks seen t.lanes t.boundaries)
  pub counted : ids ≡ ids_of seen t.lanes (cut_keys marks t.boundaries)
  pub left : ids_left counter (ids + length cut) ≡ true
  pub lanes_fit : rows_fit max_lanes lane_words (word row_count t.lanes + length cut) t.lanes ≡ true
  pub boundaries_fit : rows_fit max_boundaries boundary_words (word row_count t.boundaries + ids) t.boundaries ≡ true

-- the pieces are listed, and all their lines measured, as if they lay behind the last point of a line
abbrev pub reach_of : Tables → ℕ
reach_of t = last_point (spans (line_tables t.lanes t.boundaries t.stop_lines t.crosswalks t.coordinates))

pub record Measured (tol : Tolerance) (counter : ℕ) (t : Tables) (own : ℕ) (stations : List Float) (ids : ℕ) (k : Cutting) : Type 0 where
  pub number : Numbered tol counter t own k.point k.seen k.cut stations ids k.marks
  pub next : k.next ≡ next_id counter + ids
  pub reach : k.reach ≡ reach_of t
  pub many : k.many ≡ length (cut_keys k.marks t.boundaries)
  pub pieces : k.pieces ≡ over (replicate 3072 0) 0 (piece_words k.seen t.lanes (next_id counter) (cut_keys k.marks t.boundaries))
  pub lines : k.lines ≡ over (replicate 3072 0) 0 (measured k.point k.reach (boundary_lines_of k t))
  pub centers : k.centers ≡ over (replicate 1536 0) 0 (measured k.point (k.reach + length (drawn_pieces k.point (boundary_lines_of k t))) (center_lines_of k t))

-- and it is known of every rule that names a cut lane whether it has an anchor, and past which cuts that lies
pub record Anchored (tol : Tolerance) (t : Tables) (stations : List Float) (k : Cutting) (anchored past : List Bool) : Type 0 where
  pub anchors : anchored ≡ over (replicate 512 false) 0 (anchored_by t.coordinates t.stop_lines t.crosswalks k.cut t.rules)
  pub sides : past ≡ past_by tol.join t.coordinates t.lanes t.boundaries k.point k.cut stations t.stop_lines t.crosswalks t.rules (replicate 32768 false)
