-- Demand 3 of every list in which calls of both `apply` stand side by side. Assumes nothing.
use mathlib.Core.Path.{◌≡◌, refl, ap, ◌∙◌}
use mathlib.Core.List.{List, [], ◌∷◌}
use Rattle.rules.specs.Names.{Tolerance}
use Rattle.tables.specs.Formed.{sound_tables}
use Rattle.step.specs.Step.{Ended}
use Rattle.step.specs.Run.{Held, held_in, lengths_of, map_in}
use Rattle.job_step.specs.Job.{JobEnded}
use Rattle.job_step.specs.Run.{TableDeed, edit_with, job_with, held_after_all, held_behind}
use Rattle.job_step.proofs.Claim.{table-deed-claim_3}
use Rattle.job.specs.Calls.{AllCalled, Called, CallsClaim3, Outcome, held_by, held_of, of_edit, of_job}

-- what a call leaves is what the definitions leave
called-held : (tol : Tolerance) (d : TableDeed) (h : Held) (o : Outcome) → Called tol d h o → held_of o ≡ held_behind tol d h
called-held tol (edit_with c) h (of_edit e) k = ap (λ (x : Ended). held_in x.lent) k
called-held tol (edit_with c) h (of_job e) k = absurd k
called-held tol (job_with c) h (of_edit e) k = absurd k
called-held tol (job_with c) h (of_job e) k = ap (λ (x : JobEnded). held_in x.lent) k

all_held : (tol : Tolerance) (ds : List TableDeed) (h : Held) (os : List Outcome) → AllCalled tol ds h os → held_by os h ≡ held_after_all tol ds h
unfolding AllCalled held_by held_after_all
all_held tol [] h [] k = refl
all_held tol [] h (o ∷ os) k = absurd k
all_held tol (d ∷ ds) h [] k = absurd k
all_held tol (d ∷ ds) h (o ∷ os) k = all_held tol ds (held_of o) os k.1 ∙ ap (held_after_all tol ds) (called-held tol d h o k.0)

-- THE CLAIM
pub calls-claim_3 : CallsClaim3
calls-claim_3 tol h s ds os k =
    let d = table-deed-claim_3 tol h s ds in
    let held = all_held tol ds h os k in
    record {
      map_left = ap map_in held ∙ d.map_left;
      all_closed = d.all_closed;
      stays_sound = ap (λ (x : Held). sound_tables x.counter x.tables) held ∙ d.stays_sound;
      lengths_left = ap (λ (x : Held). lengths_of x.tables) held ∙ d.lengths_left;
      demand_3 = d.demand_3;
    }
