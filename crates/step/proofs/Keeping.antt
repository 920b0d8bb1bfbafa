-- What an accepted call keeps of lent memory, and demand 3 over every list of calls whose commands keep it and are lawful. Assumes nothing.
use Rattle.std.specs.Prelude.{Option, Err, Ok}
use mathlib.Core.Path.{◌≡◌, refl, sym, ap, ◌∙◌, subst}
use mathlib.Core.Bool.{Bool, true, false, cond}
use mathlib.Core.List.{List, [], ◌∷◌, map}
use Prim.{Unit, tt}
use Prim.Native.Nat.{ℕ, ◌-◌, ◌/◌}
use native.Mathlib.Omega.{arith}
use lib.Dec.{leb}
use lib.ListN.{get_or}
use Rattle.rules.specs.Names.{Tolerance, Refusal, Unsound, NoRoom, NoIds}
use Rattle.rules.specs.Sound.{Room, Lists, sound, fits_room, last_counter}
use Rattle.entities.specs.Records.{Map, ChangeSet}
use Rattle.rules.specs.Edit.{Res, ◌>>=◌, check, Edited}
use Rattle.rules.specs.Ops as O
use Rattle.rules.specs.Demand.{Told}
use Rattle.laws.proofs.Law.{Lawful, AllLawful, step_kept, demand_3}
use Rattle.tables.specs.View.{Tables, view, lane_words, boundary_words}
use Rattle.tables.specs.Formed.{sound_tables}
use Rattle.store.specs.Store.{room_of}
use Rattle.step.specs.Step.{Lent, lists_of, call_of, state_of, refusing, writing, changing, closing, step}
use Rattle.sound_facts.proofs.Found.{sound-map}
use Rattle.step.specs.Run.{Held, Lending, lend, held_in, map_in, call, call_on, run_tables, held_after, closings, lengths_of, TableDemand3}

-- ---- one call

-- the same call on the map that is held
abbrev pub outcome : Tolerance → O.Command → Lent → O.Outcome
outcome tol c l = O.step_map tol (room_of l.tables) (call_of c l) (state_of l)

-- What is lent after a call: it is sound, holds the outcome's map and counter, and has its lengths.
pub record Kept (l : Lent) (o : O.Outcome) (after : Lent) : Type 0 where
  pub stays_sound : sound_tables after.counter after.tables ≡ true
  pub map_left : state_of after ≡ o.state
  pub lengths_left : lengths_of after.tables ≡ lengths_of l.tables

-- A command keeps lent memory: of any that is sound, if document 01 accepts the call.
abbrev pub Keeps : Tolerance → O.Command → Type 0
Keeps tol c =
    (l : Lent) → sound_tables l.counter l.tables ≡ true → (cs : ChangeSet) (second : Option ℕ)
    → (outcome tol c l).answer ≡ O.accepted cs second → Kept l (outcome tol c l) (step tol c l).lent

-- the room is read from the lengths
room_by : List ℕ → Room
room_by ns = record { lanes = (get_or ns 0 0 - 1) / lane_words; boundaries = (get_or ns 1 0 - 1) / boundary_words; points = get_or ns 7 0 / 3 }

pub room-same : (t u : Tables) → lengths_of t ≡ lengths_of u → room_of t ≡ room_of u
unfolding room_by
room-same t u e = ap room_by e

module _ (tol : Tolerance) (c : O.Command) (l : Lent) (s : sound_tables l.counter l.tables ≡ true) where
  -- a call on sound memory closes as its outcome on the map does
  pub closed : step tol c l ≡ closing c l (outcome tol c l).state (outcome tol c l).answer
  unfolding step
  closed = ap (λ b. cond b (closing c l (outcome tol c l).state (outcome tol c l).answer) (refusing l Unsound)) s

  -- accepted or refused
  pub call_kept : Lawful tol c → Keeps tol c → Kept l (outcome tol c l) (step tol c l).lent
  call_kept law keeps = go (outcome tol c l).answer refl
    where
      told : Told (state_of l) (outcome tol c l)
      told = (step_kept tol (room_of l.tables) (call_of c l) (state_of l) (sound-map l.counter l.tables s) law).told

      go : (a : O.Answer) → (outcome tol c l).answer ≡ a → Kept l (outcome tol c l) (step tol c l).lent
      go (O.accepted cs second) e = keeps l s cs second e
      go (O.refused r) e =
          let stays : (outcome tol c l).state ≡ state_of l = subst (λ a. Told (state_of l) (record { state = (outcome tol c l).state; answer = a })) e told in
          subst (λ x. Kept l (outcome tol c l) x.lent) (sym (closed ∙ ap (closing c l (outcome tol c l).state) e))
          (record { stays_sound = s; map_left = sym stays; lengths_left = refl })

-- ---- an accepted call

not-accepted : (r : Refusal) (cs : ChangeSet) (second : Option ℕ) → O.refused r ≡ O.accepted cs second → ⊥
not-accepted r cs second e = let z : ◌≡◌ {A = ℕ} 0 1 = cc in nothing z
  where
    nothing : ◌≡◌ {A = ℕ} 0 1 → ⊥
    nothing z = omega arith

finish-yields : (room : Room) (ls : Lists) (s : O.State) (cs : ChangeSet) (second : Option ℕ) (r : Res Edited) → (O.finish room ls s r).answer ≡ O.accepted cs second
    → (e : Edited) × (r ≡ Ok e) × ((O.finish room ls s r).state ≡ (O.accepted_as s e).state) × (fits_room room e.result ≡ true)
finish-yields room ls s cs second (Err r) a = absurd (not-accepted r cs second a)
finish-yields room ls s cs second (Ok e) a = settles (leb (O.counter_after s.counter e.ids) last_counter) (fits_room room e.result) refl a
  where
    Made : O.Outcome → Type 0
    Made o = (d : Edited) × (◌≡◌ {A = Res Edited} (Ok e) (Ok d)) × (o.state ≡ (O.accepted_as s d).state) × (fits_room room d.result ≡ true)

    lists : fits_room room e.result ≡ true → (l : Bool) → (O.outcome_of s (check l NoRoom >>= (λ _. Ok e))).answer ≡ O.accepted cs second
        → Made (O.outcome_of s (check l NoRoom >>= (λ _. Ok e)))
    lists fits true b = (e, refl, refl, fits)
    lists fits false b = absurd (not-accepted NoRoom cs second b)

    settles : (p q : Bool) → fits_room room e.result ≡ q
        → (O.outcome_of s (O.listable ls (check p NoIds >>= (λ _. (check q NoRoom >>= (λ _. Ok e)))))).answer ≡ O.accepted cs second
        → Made (O.outcome_of s (O.listable ls (check p NoIds >>= (λ _. (check q NoRoom >>= (λ _. Ok e))))))
    settles false q fits b = absurd (not-accepted NoIds cs second b)
    settles true false fits b = absurd (not-accepted NoRoom cs second b)
    settles true true fits b = lists fits (O.fits_lists ls e.changes) b

module _ (tol : Tolerance) (c : O.Command) (l : Lent) (s : sound_tables l.counter l.tables ≡ true) (cs : ChangeSet) (second : Option ℕ)
    (a : (outcome tol c l).answer ≡ O.accepted cs second) where
  -- what it leaves
  pub closed-accepted : step tol c l ≡ changing c l (outcome tol c l).state cs second
  closed-accepted = closed tol c l s ∙ ap (closing c l (outcome tol c l).state) a

  -- the edit behind it, and that its result has room
  pub accepted-edit : (e : Edited) × (O.edit tol c (state_of l) ≡ Ok e) × ((outcome tol c l).state ≡ (O.accepted_as (state_of l) e).state)
      × (fits_room (room_of l.tables) e.result ≡ true)
  unfolding O.step_map
  accepted-edit =
      let finished : outcome tol c l ≡ O.finish (room_of l.tables) (lists_of l) (state_of l) (O.edit tol c (state_of l)) =
      ap (λ b. cond b (O.finish (room_of l.tables) (lists_of l) (state_of l) (O.edit tol c (state_of l))) (O.refused_as (state_of l) Unsound))
      (sound-map l.counter l.tables s) in
      let (e, y, is, fits) = finish-yields (room_of l.tables) (lists_of l) (state_of l) cs second (O.edit tol c (state_of l)) (ap (λ o. o.answer) (sym finished) ∙ a) in
      (e, y, ap (λ o. o.state) finished ∙ is, fits)

-- ---- a command whose results can be written

-- how a map is written to tables: `store` or `laid`
abbrev pub Writing : Type 0
Writing = Tables → Map → Tables

-- Tables hold a map that is written to them: they are sound, what is read from them is that map, and their lengths stay.
pub record Holds (w : Writing) (counter : ℕ) (t : Tables) (m : Map) : Type 0 where
  pub stays_sound : sound_tables counter (w t m) ≡ true
  pub map-held : view (w t m) ≡ m
  pub lengths_left : lengths_of (w t m) ≡ lengths_of t

-- An edit's result can be written: if it is sound and has room, the tables hold it.
abbrev pub Writable : Writing → ℕ → Tables → Edited → Type 0
Writable w counter t e =
    sound (O.counter_after counter e.ids) e.result ≡ true → fits_room (room_of t) e.result ≡ true → Holds w (O.counter_after counter e.ids) t e.result

-- of every edit of a command, on any sound memory
abbrev pub Writes : Tolerance → O.Command → Type 0
Writes tol c =
    (counter : ℕ) (t : Tables) → sound_tables counter t ≡ true → (e : Edited) → O.edit tol c (record { map = view t; counter = counter }) ≡ Ok e
    → Writable (writing c) counter t e

-- A lawful command whose results can be written keeps lent memory.
pub writes-keep : (tol : Tolerance) (c : O.Command) → Lawful tol c → Writes tol c → Keeps tol c
writes-keep tol c law writes l s cs second a =
    let (e, y, is, fits) = accepted-edit tol c l s cs second a in
    let sane = subst (λ x. sound x.counter x.map ≡ true) is
    (step_kept tol (room_of l.tables) (call_of c l) (state_of l) (sound-map l.counter l.tables s) law).sound-left in
    let held = writes l.counter l.tables s e y sane fits in
    subst (λ x. Kept l (outcome tol c l) x.lent) (sym (closed-accepted tol c l s cs second a ∙ ap (λ x. changing c l x cs second) is))
    (record {
      stays_sound = held.stays_sound;
      map_left = ap (λ m. record { map = m; counter = O.counter_after l.counter e.ids }) held.map-held ∙ sym is;
      lengths_left = held.lengths_left;
    })

-- ---- every list of calls

-- the commands of a list are lawful and keep lent memory
abbrev pub AllKeep : Tolerance → List Lending → Type 0
AllKeep tol [] = Unit
AllKeep tol (c ∷ cs) = Lawful tol c.command × Keeps tol c.command × AllKeep tol cs

all-lawful : (tol : Tolerance) (h : Held) (cs : List Lending) → AllKeep tol cs → AllLawful tol (map (call_on h) cs)
all-lawful tol h [] k = tt
all-lawful tol h (c ∷ cs) k = (k.0, all-lawful tol h cs k.2)

-- what the list on lent memory and the list on maps have in common
record Beside (tol : Tolerance) (room : Room) (h : Held) (cs : List Lending) (calls : List O.Call) (s : O.State) : Type 0 where
  map_left : map_in (held_after tol cs h) ≡ O.after tol room calls s
  maps_left : map (λ e. state_of e.lent) (run_tables tol cs h) ≡ map (λ o. o.state) (O.run tol room calls s)
  calls_closed : run_tables tol cs h ≡ closings cs (O.run tol room calls s) h
  stays_sound : sound_tables (held_after tol cs h).counter (held_after tol cs h).tables ≡ true
  lengths_left : lengths_of (held_after tol cs h).tables ≡ lengths_of h.tables

beside : (tol : Tolerance) (cs : List Lending) (h : Held) → sound_tables h.counter h.tables ≡ true → AllKeep tol cs
    → Beside tol (room_of h.tables) h cs (map (call_on h) cs) (map_in h)
unfolding run_tables held_after closings O.run O.after
beside tol [] h s k = record { map_left = refl; maps_left = refl; calls_closed = refl; stays_sound = s; lengths_left = refl }
beside tol (c ∷ cs) h s k =
    let room = room_of h.tables in
    let calls = map (call_on h) cs in
    let e = call tol h c in
    let o = outcome tol c.command (lend h c) in
    let next = held_in e.lent in
    let q = call_kept tol c.command (lend h c) s k.0 k.1 in
    let r = room-same next.tables h.tables q.lengths_left in
    let rest : Beside tol room next cs calls o.state =
    subst (λ x. Beside tol x next cs calls o.state) r
    (subst (λ x. Beside tol (room_of next.tables) next cs calls x) q.map_left (beside tol cs next q.stays_sound k.2)) in
    record {
      map_left = rest.map_left;
      maps_left = ap (λ x. x ∷ map (λ e. state_of e.lent) (run_tables tol cs next)) q.map_left ∙ ap (λ xs. o.state ∷ xs) rest.maps_left;
      calls_closed = ap (λ xs. e ∷ xs) rest.calls_closed ∙ ap (λ x. x ∷ closings cs (O.run tol room calls o.state) (held_in x.lent)) (closed tol c.command (lend h c) s);
      stays_sound = rest.stays_sound;
      lengths_left = rest.lengths_left ∙ q.lengths_left;
    }

-- Demand 3 on lent memory, for every list of calls whose commands are lawful and keep it.
pub table_demand_3 : (tol : Tolerance) (h : Held) → sound_tables h.counter h.tables ≡ true → (cs : List Lending) → AllKeep tol cs → TableDemand3 tol h cs
table_demand_3 tol h s cs k =
    let b = beside tol cs h s k in
    record {
      map_left = b.map_left;
      maps_left = b.maps_left;
      calls_closed = b.calls_closed;
      stays_sound = b.stays_sound;
      demand_3 = demand_3 tol (room_of h.tables) (map_in h) (sound-map h.counter h.tables s) (map (call_on h) cs) (all-lawful tol h cs k);
      lengths_left = b.lengths_left;
    }
