-- ops.rs: the six commands, one call of the editor, and a list of calls.
use Rattle.std.specs.Prelude.{ℕ, ◌+◌, Bool, ◌&&◌, cond, List, [], ◌∷◌, eqb, leb, length, Option, Err, Ok}
pub use Rattle.entities.specs.declared.Command.{Command}
pub use Rattle.entities.specs.declared.Command.TheVariants.{SplitLane, MergeLanes, ConnectLanes, DisconnectLanes, SetNeighbor, RemoveLane}
use Rattle.rules.specs.Names.{Tolerance, Refusal, Unsound, NoRoom, NoIds}
use Rattle.entities.specs.Records.{Map, ChangeSet}
use Rattle.rules.specs.Sound.{sound, Room, Lists, fits_room, last_counter, next_id}
use Rattle.rules.specs.Edit.{Res, ◌>>=◌, check, Edited, connect, disconnect, set_neighbor}
use Rattle.rules.specs.Lane.{remove_lane}
use Rattle.rules.specs.Merge.{merge_lanes}
use Rattle.rules.specs.Split.{split_lane}

-- A map with its counter.
pub record State : Type 0 where
  pub map : Map
  pub counter : ℕ

-- A call brings its command and the lengths of the slices lent for its lists.
pub record Call : Type 0 where
  pub command : Command
  pub lists : Lists

-- What a call answers.
pub data Answer : Type 0 where
  refused : Refusal → Answer
  accepted : ChangeSet → Option ℕ → Answer

pub record Outcome : Type 0 where
  pub state : State
  pub answer : Answer

-- Refusals 1 to 8 in the Rust's order, or the edited map. New ids start at the counter.
unfoldable pub edit : Tolerance → Command → State → Res Edited
edit tol (SplitLane i at neighbors) s = split_lane tol (next_id s.counter) i at neighbors s.map
edit tol (MergeLanes i j) s = merge_lanes tol (next_id s.counter) i j s.map
edit tol (ConnectLanes i j) s = connect tol i j s.map
edit tol (DisconnectLanes i j) s = disconnect i j s.map
edit tol (SetNeighbor i side n) s = set_neighbor i side n s.map
edit tol (RemoveLane i) s = remove_lane i s.map

-- An edit that needs no id leaves the counter.
abbrev pub counter_after : ℕ → ℕ → ℕ
counter_after counter ids = cond (eqb ids 0) counter (next_id counter + ids)

abbrev pub fits_lists : Lists → ChangeSet → Bool
fits_lists ls cs =
    leb (length cs.created) ls.created
    && leb (length cs.modified) ls.modified
    && leb (length cs.deleted) ls.deleted
    && leb (length cs.warnings) ls.warnings

-- Each refusal "returns its number and one entity .. and changes nothing lent".
abbrev pub refused_as : State → Refusal → Outcome
refused_as s r = record { state = s; answer = refused r }

abbrev pub accepted_as : State → Edited → Outcome
accepted_as s e =
    record { state = record { map = e.result; counter = counter_after s.counter e.ids }; answer = accepted e.changes e.second }

-- "11 the counter plus the ids needed passes 2^64 − 1", then the 10 of the map: "the finished result passes a limit above"
abbrev pub settled : Room → ℕ → Res Edited → Res Edited
settled room counter r = do
  e ← r
  ids ← check (leb (counter_after counter e.ids) last_counter) NoIds
  fits ← check (fits_room room e.result) NoRoom
  Ok e

-- then the 10 of the lists: "or a lent list's length"
abbrev pub listable : Lists → Res Edited → Res Edited
listable ls r = do
  e ← r
  fits ← check (fits_lists ls e.changes) NoRoom
  Ok e

abbrev pub outcome_of : State → Res Edited → Outcome
outcome_of s (Err r) = refused_as s r
outcome_of s (Ok e) = accepted_as s e

abbrev pub finish : Room → Lists → State → Res Edited → Outcome
finish room ls s r = outcome_of s (listable ls (settled room s.counter r))

-- One call. "9 comes first, then the Rust's order, then 11, then 10."
unfoldable pub step_map : Tolerance → Room → Call → State → Outcome
step_map tol room c s = cond (sound s.counter s.map) (finish room c.lists s (edit tol c.command s)) (refused_as s Unsound)

-- A list of calls, each on the map and the counter as the last call left them, a refused one too: what each left and answered.
unfoldable pub run : Tolerance → Room → List Call → State → List Outcome
run tol room [] s = []
run tol room (c ∷ cs) s = let o = step_map tol room c s in o ∷ run tol room cs o.state

unfoldable pub after : Tolerance → Room → List Call → State → State
after tol room [] s = s
after tol room (c ∷ cs) s = after tol room cs (step_map tol room c s).state
