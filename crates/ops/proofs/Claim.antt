-- Demand 3 of every list of calls of `apply`, undivided. Assumes nothing.
use mathlib.Core.Path.{◌≡◌, refl, ap, ◌∙◌}
use mathlib.Core.List.{List, [], ◌∷◌, map}
use Rattle.rules.specs.Names.{Tolerance}
use Rattle.rules.specs.Ops as O
use Rattle.tables.specs.Formed.{sound_tables}
use Rattle.store.specs.Store.{room_of}
use Rattle.step.specs.Step.{Ended, state_of, step}
use Rattle.step.specs.Run.{Held, Lending, call_on, held_after, held_in, lend, lengths_of, map_in, run_tables}
use Rattle.step.proofs.Claim.{demand_3_tables}
use Rattle.ops.specs.Calls.{ApplyClaim3, Calls, held_by}

-- the calls are the run of the definitions
calls-run : (tol : Tolerance) (cs : List Lending) (h : Held) (es : List Ended) → Calls tol cs h es → es ≡ run_tables tol cs h
unfolding Calls run_tables
calls-run tol [] h [] k = refl
calls-run tol [] h (e ∷ es) k = absurd k
calls-run tol (c ∷ cs) h [] k = absurd k
calls-run tol (c ∷ cs) h (e ∷ es) k =
    let f : e ≡ step tol c.command (lend h c) = k.0 in
    ap (λ (x : Ended). x ∷ es) f ∙ ap (λ (xs : List Ended). step tol c.command (lend h c) ∷ xs) (calls-run tol cs (held_in e.lent) es k.1 ∙ ap (λ (x : Ended). run_tables tol cs (held_in x.lent)) f)

calls-held : (tol : Tolerance) (cs : List Lending) (h : Held) (es : List Ended) → Calls tol cs h es → held_by es h ≡ held_after tol cs h
unfolding Calls held_by held_after
calls-held tol [] h [] k = refl
calls-held tol [] h (e ∷ es) k = absurd k
calls-held tol (c ∷ cs) h [] k = absurd k
calls-held tol (c ∷ cs) h (e ∷ es) k =
    calls-held tol cs (held_in e.lent) es k.1 ∙ ap (λ (x : Ended). held_after tol cs (held_in x.lent)) k.0

-- THE CLAIM
pub apply_demand_3 : ApplyClaim3
apply_demand_3 tol h s cs es k =
    let d = demand_3_tables tol h s cs in
    let run = calls-run tol cs h es k in
    let held = calls-held tol cs h es k in
    let left : map_in (held_by es h) ≡ O.after tol (room_of h.tables) (map (call_on h) cs) (map_in h) = ap map_in held ∙ d.map_left in
    record {
      map_left = left;
      maps_left = ap (λ (xs : List Ended). map (λ e. state_of e.lent) xs) run ∙ d.maps_left;
      calls_closed = run ∙ d.calls_closed;
      stays_sound = ap (λ (x : Held). sound_tables x.counter x.tables) held ∙ d.stays_sound;
      lengths_left = ap (λ (x : Held). lengths_of x.tables) held ∙ d.lengths_left;
      demand_3 = d.demand_3;
    }
