-- Demand 3 of the calls of `apply`: its contract says of each call what `Applied` says, and the claim is about every list of such calls. `apply` of `ops` has
-- the counter by value, `apply` of `allocator` is lent it; the two promise the same `Applied`, so that the claim is about lists of calls of the second as it
-- stands: each call is lent the counter as the last one left it.
use Rattle.std.specs.Prelude.{◌≡◌, true, List, [], ◌∷◌, map, ℕ}
use Rattle.rules.specs.Names.{Tolerance}
use Rattle.rules.specs.Ops as O
use Rattle.rules.specs.Demand.{Demand3}
use Rattle.tables.specs.Formed.{sound_tables}
use Rattle.store.specs.Store.{room_of}
use Rattle.step.specs.Step.{Lent, Ended, state_of, step}
use Rattle.step.specs.Run.{Held, Lending, call_on, closings, held_in, lend, lengths_of, map_in}

-- ---- one call

-- The contract of `apply`: made with a tolerance and a command on what is lent, a call leaves and answers this. The counter is part of what is lent and left:
-- a counter that is lent has its closing value there.
abbrev pub Applied : Tolerance → O.Command → Lent → Ended → Type 0
Applied tol c l e = e ≡ step tol c l

-- ---- a list of calls

-- Each gets "the map's same slices and the counter as the last call left them", a refused one too, and lists of its own.
unfoldable pub Calls : Tolerance → List Lending → Held → List Ended → Type 0
Calls tol [] h [] = ◌≡◌ {A = ℕ} 0 0
Calls tol [] h (e ∷ es) = ⊥
Calls tol (c ∷ cs) h [] = ⊥
Calls tol (c ∷ cs) h (e ∷ es) = Applied tol c.command (lend h c) e × Calls tol cs (held_in e.lent) es

-- what the last of them left
unfoldable pub held_by : List Ended → Held → Held
held_by [] h = h
held_by (e ∷ es) h = held_by es (held_in e.lent)

-- ---- the claim

-- "Demand 3 is a single claim about the whole list of calls": `cs` are the calls' commands and lists, `es` what each left and answered.
pub record ApplyDemand3 (tol : Tolerance) (h : Held) (cs : List Lending) (es : List Ended) : Type 0 where
  -- the map is what document 01's edits and refusals make of it: at the end, after each call, and in all that each call leaves and answers
  pub map_left : map_in (held_by es h) ≡ O.after tol (room_of h.tables) (map (call_on h) cs) (map_in h)
  pub maps_left : map (λ e. state_of e.lent) es ≡ map (λ o. o.state) (O.run tol (room_of h.tables) (map (call_on h) cs) (map_in h))
  pub calls_closed : es ≡ closings cs (O.run tol (room_of h.tables) (map (call_on h) cs) (map_in h)) h
  -- lent memory stays sound, and as long as it was
  pub stays_sound : sound_tables (held_by es h).counter (held_by es h).tables ≡ true
  pub lengths_left : lengths_of (held_by es h).tables ≡ lengths_of h.tables
  -- links and neighbours reciprocal, no lane twice in a list, the links the book's, and the lists of every accepted call exact
  pub demand_3 : Demand3 tol (room_of h.tables) (map_in h) (map (call_on h) cs)

-- for every tolerance, every sound lent memory and every list of calls
abbrev pub ApplyClaim3 : Type 0
ApplyClaim3 = (tol : Tolerance) (h : Held) → sound_tables h.counter h.tables ≡ true → (cs : List Lending) (es : List Ended) → Calls tol cs h es → ApplyDemand3 tol h cs es
