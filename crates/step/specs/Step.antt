-- One call of the editor on lent memory: document 01's edits and refusals on the map that it holds, written back.
use Rattle.std.specs.Prelude.{ℕ, ◌/◌, cond, List, length, Float, Option, Err}
use Rattle.entities.specs.Records.{Map, ChangeSet}
use Rattle.lent.specs.declared.Map as M
use Rattle.lent.specs.declared.Lists as L
use Rattle.lent.specs.declared.RelinkMap.{RelinkMap}
use Rattle.lent.specs.declared.RelinkLists.{RelinkLists}
use Rattle.lent.specs.declared.RemovalMap.{RemovalMap}
use Rattle.lent.specs.declared.RemovalLists.{RemovalLists}
use Rattle.rules.specs.Names.{Tolerance, Refusal, Unsound}
use Rattle.rules.specs.Sound.{Lists}
use Rattle.rules.specs.Ops as O
pub use Rattle.tables.specs.View.{tables_of}
use Rattle.tables.specs.View.{Tables, view}
use Rattle.tables.specs.Formed.{sound_tables}
use Rattle.store.specs.Store.{store, room_of}
use Rattle.store.specs.Laid.{laid}
use Rattle.report.specs.Report.{listed, warned, accepting, Answer}

-- ---- what is lent, and what a call leaves

-- "Each call gets the map's same slices and the counter", "a call's arguments and the slices lent for its lists are free each time".
pub record Lent : Type 0 where
  pub counter : ℕ
  pub tables : Tables
  pub created : List ℕ
  pub modified : List ℕ
  pub deleted : List ℕ
  pub warnings : List ℕ

pub record Ended : Type 0 where
  pub lent : Lent
  pub answer : Answer

-- ---- the lent lengths

-- pairs of words, and rows of ten
abbrev pub lists_of : Lent → Lists
lists_of l =
    record { created = length l.created / 2; modified = length l.modified / 2; deleted = length l.deleted / 2; warnings = length l.warnings / 10 }

abbrev pub call_of : O.Command → Lent → O.Call
call_of c l = record { command = c; lists = lists_of l }

abbrev pub state_of : Lent → O.State
state_of l = record { map = view l.tables; counter = l.counter }

-- ---- one call

-- Each refusal "returns its number and one entity .. and changes nothing lent".
abbrev pub refusing : Lent → Refusal → Ended
refusing l r = record { lent = l; answer = Err r }

-- How a map is written back: connect, disconnect, set_neighbor and remove_lane leave every line where it is; split_lane and merge_lanes lay all lines
-- of the new map out anew.
abbrev pub writing : O.Command → Tables → Map → Tables
writing (O.SplitLane i at neighbors) = laid
writing (O.MergeLanes i j) = laid
writing (O.ConnectLanes i j) = store
writing (O.DisconnectLanes i j) = store
writing (O.SetNeighbor i side n) = store
writing (O.RemoveLane i) = store

abbrev pub changing : O.Command → Lent → O.State → ChangeSet → Option ℕ → Ended
changing c l s cs second =
    record {
      lent =
          record {
            counter = s.counter;
            tables = writing c l.tables s.map;
            created = listed l.created cs.created;
            modified = listed l.modified cs.modified;
            deleted = listed l.deleted cs.deleted;
            warnings = warned l.warnings cs.warnings;
          };
      answer = accepting cs second;
    }

abbrev pub closing : O.Command → Lent → O.State → O.Answer → Ended
closing c l s (O.refused r) = refusing l r
closing c l s (O.accepted cs second) = changing c l s cs second

-- "9 comes first".
unfoldable pub step : Tolerance → O.Command → Lent → Ended
step tol c l =
    let o = O.step_map tol (room_of l.tables) (call_of c l) (state_of l) in
    cond (sound_tables l.counter l.tables) (closing c l o.state o.answer) (refusing l Unsound)

-- ---- slices as what is lent

abbrev pub lent_of : ℕ → List ℕ → List ℕ → List ℕ → List ℕ → List ℕ → List ℕ → List ℕ → List Float → List ℕ → List ℕ → List ℕ → List ℕ → Lent
lent_of counter lanes boundaries roads junctions rules stops crosswalks coordinates created modified deleted warnings =
    record {
      counter = counter;
      tables = tables_of lanes boundaries roads junctions rules stops crosswalks coordinates;
      created = created;
      modified = modified;
      deleted = deleted;
      warnings = warnings;
    }

-- the same of a map and lists that are one value each
abbrev pub given : ℕ → M.Map → L.Lists → Lent
given counter m l = lent_of counter m.lanes.now m.boundaries.now m.roads.now m.junctions.now m.rules.now m.stop_lines.now m.crosswalks.now m.coordinates.now l.created.now l.modified.now l.deleted.now l.warnings.now

-- and where an edit borrows those of them that it leaves to read
abbrev pub relink_given : ℕ → RelinkMap → RelinkLists → Lent
relink_given counter m l = lent_of counter m.lanes.now m.boundaries.now m.roads.now m.junctions.now m.rules.now m.stop_lines.now m.crosswalks.now m.coordinates.now l.created.now l.modified.now l.deleted.now l.warnings.now

abbrev pub removal_given : ℕ → RemovalMap → RemovalLists → Lent
removal_given counter m l = lent_of counter m.lanes.now m.boundaries.now m.roads.now m.junctions.now m.rules.now m.stop_lines.now m.crosswalks.now m.coordinates.now l.created.now l.modified.now l.deleted.now l.warnings.now

abbrev pub ended : Lent → Answer → Ended
ended l a = record { lent = l; answer = a }
