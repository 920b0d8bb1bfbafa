-- Demand 3 on lent memory: a list of calls on the same tables and counter, and the one claim about the whole of it.
use Rattle.std.specs.Prelude.{◌≡◌, true, List, [], ◌∷◌, map, ℕ, length}
use Rattle.rules.specs.Names.{Tolerance}
use Rattle.rules.specs.Ops as O
use Rattle.rules.specs.Demand.{Demand3}
use Rattle.tables.specs.View.{Tables, view}
use Rattle.tables.specs.Formed.{sound_tables}
use Rattle.store.specs.Store.{room_of}
use Rattle.step.specs.Step.{Lent, Ended, call_of, state_of, closing, step}

-- ---- one call of a list

-- what every call gets: "the map's same slices and the counter as the last call left them"
pub record Held : Type 0 where
  pub counter : ℕ
  pub tables : Tables

-- what is a call's own: "a call's arguments and the slices lent for its lists are free each time"
pub record Lending : Type 0 where
  pub command : O.Command
  pub created : List ℕ
  pub modified : List ℕ
  pub deleted : List ℕ
  pub warnings : List ℕ

abbrev pub lend : Held → Lending → Lent
lend h c = record { counter = h.counter; tables = h.tables; created = c.created; modified = c.modified; deleted = c.deleted; warnings = c.warnings }

abbrev pub held_in : Lent → Held
held_in l = record { counter = l.counter; tables = l.tables }

-- the map that is held, with its counter
abbrev pub map_in : Held → O.State
map_in h = record { map = view h.tables; counter = h.counter }

abbrev pub call : Tolerance → Held → Lending → Ended
call tol h c = step tol c.command (lend h c)

-- the same call on a map: its command and the lengths of the slices lent for its lists; of what is held it takes nothing
abbrev pub call_on : Held → Lending → O.Call
call_on h c = call_of c.command (lend h c)

-- ---- a list of calls

-- Each on the tables and the counter as the last call left them, a refused one too: what each left and answered.
unfoldable pub run_tables : Tolerance → List Lending → Held → List Ended
run_tables tol [] h = []
run_tables tol (c ∷ cs) h = let e = call tol h c in e ∷ run_tables tol cs (held_in e.lent)

unfoldable pub held_after : Tolerance → List Lending → Held → Held
held_after tol [] h = h
held_after tol (c ∷ cs) h = held_after tol cs (held_in (call tol h c).lent)

-- Outcomes on maps as the same calls leave and answer them in lent memory: a refusal leaves all that was lent, an accepted edit's map and lists are written.
unfoldable pub closings : List Lending → List O.Outcome → Held → List Ended
closings [] os h = []
closings (c ∷ cs) [] h = []
closings (c ∷ cs) (o ∷ os) h = let e = closing c.command (lend h c) o.state o.answer in e ∷ closings cs os (held_in e.lent)

abbrev pub lengths_of : Tables → List ℕ
lengths_of t =
    length t.lanes
    ∷ length t.boundaries
    ∷ length t.roads
    ∷ length t.junctions
    ∷ length t.rules
    ∷ length t.stop_lines
    ∷ length t.crosswalks
    ∷ length t.coordinates
    ∷ []

-- ---- the claim

-- "Demand 3 is a single claim about the whole list of calls": beside the list on lent memory runs the same list on the map that was held at first,
-- with the room of the lent lengths, and never looks at the memory again.
pub record TableDemand3 (tol : Tolerance) (h : Held) (cs : List Lending) : Type 0 where
  -- The map is what document 01 makes of it call by call: the map held at the end, the map held after each call, and all that each call leaves and answers
  pub map_left : map_in (held_after tol cs h) ≡ O.after tol (room_of h.tables) (map (call_on h) cs) (map_in h)
  pub maps_left : map (λ e. state_of e.lent) (run_tables tol cs h) ≡ map (λ o. o.state) (O.run tol (room_of h.tables) (map (call_on h) cs) (map_in h))
  pub calls_closed : run_tables tol cs h ≡ closings cs (O.run tol (room_of h.tables) (map (call_on h) cs) (map_in h)) h
  -- "sound", of lent memory
  pub stays_sound : sound_tables (held_after tol cs h).counter (held_after tol cs h).tables ≡ true
  -- links and neighbours reciprocal, no lane twice in a list, the links the book's, and the lists of every accepted call exact
  pub demand_3 : Demand3 tol (room_of h.tables) (map_in h) (map (call_on h) cs)
  pub lengths_left : lengths_of (held_after tol cs h).tables ≡ lengths_of h.tables
