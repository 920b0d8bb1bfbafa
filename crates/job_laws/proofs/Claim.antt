-- Demand 3 over every list in which edits and jobs stand side by side, from any sound map, with any tolerances and any room. Assumes nothing.
use Rattle.std.specs.Prelude.{Ok, Err}
use mathlib.Core.Path.{◌≡◌, refl, sym, ap, ◌∙◌, subst}
use mathlib.Core.Bool.{Bool, true, false, cond}
use mathlib.Core.List.{List, [], ◌∷◌, ◌++◌}
use lib.Dec.{leb}
use Rattle.entities.specs.declared.Tolerance.{Tolerance}
use Rattle.rules.specs.Sound.{sound, Room}
use Rattle.rules.specs.Ops.{State, Call, fits_lists, step_map, after}
use Rattle.report.specs.Report.{counts}
use Rattle.laws.proofs.Law.{step_kept}
use Rattle.laws.proofs.Claim.{lawful, claim_3}
use Rattle.jobs.specs.declared.JobRefusal.TheVariants.{TooManyEdits, Unsound, NoRoom}
use Rattle.jobs.specs.Job.{JobCall, JobOutcome, Run, done, stopped, max_edits, commands, edits, net, refused_job, finish_job, job_map}
use Rattle.job_laws.specs.Deeds.{Deed, an_edit, a_job, state_behind, after_all, job_calls, calls_for, written_out, JobTold, DeedTold, AllDeedsTold, DeedClaim3}
use Rattle.job_laws.proofs.Edits.{edits-after}
use Rattle.job_laws.proofs.Net.{net-exact}

after-append : (tol : Tolerance) (room : Room) (xs ys : List Call) (s : State) → after tol room (xs ++ ys) s ≡ after tol room ys (after tol room xs s)
unfolding after
after-append tol room [] ys s = refl
after-append tol room (x ∷ xs) ys s = after-append tol room xs ys (step_map tol room x s).state

-- ---- one deed

module _ (tol : Tolerance) (room : Room) (s : State) (sane : sound s.counter s.map ≡ true) where
  -- a job leaves what its calls leave, and its answer tells the truth
  abbrev JobEnds : JobCall → JobOutcome → Type 0
  JobEnds c o = (o.state ≡ after tol room (job_calls tol room c s o.answer) s) × JobTold s o o.answer

  finished : (c : JobCall) (r : Run State) → edits tol room 1 (commands c.job) s ≡ r → JobEnds c (finish_job c.lists s r)
  unfolding after
  finished c (stopped place r) h = (refl, refl)
  finished c (done t css) h = listed (fits_lists c.lists (net s.map t.map css))
    where
      listed : (b : Bool)
          → JobEnds c (cond b (record { state = t; changes = net s.map t.map css; answer = Ok (counts (net s.map t.map css)) }) (refused_job s (Err NoRoom)))
      listed true = (edits-after tol room 1 (commands c.job) s t css sane h, (net-exact tol room 1 (commands c.job) s t css sane h, refl))
      listed false = (refl, refl)

  job-ends : (c : JobCall) → JobEnds c (job_map tol room c s)
  unfolding job_map after
  job-ends c = go (leb c.job.count max_edits) (sound s.counter s.map) c.area
    where
      go : (few sane area : Bool)
          → JobEnds c (cond few (cond sane (cond area (finish_job c.lists s (edits tol room 1 (commands c.job) s)) (refused_job s (Err NoRoom))) (refused_job s (Err Unsound))) (refused_job s (Err TooManyEdits)))
      go true true true = finished c (edits tol room 1 (commands c.job) s) refl
      go true true false = (refl, refl)
      go true false area = (refl, refl)
      go false sane area = (refl, refl)

  deed-ends : (d : Deed) → (state_behind tol room d s ≡ after tol room (calls_for tol room d s) s) × DeedTold tol room d s
  unfolding after
  deed-ends (an_edit c) = (refl, (step_kept tol room c s sane (lawful tol c.command)).told)
  deed-ends (a_job c) = job-ends c

  deed-sound : (d : Deed) → sound (state_behind tol room d s).counter (state_behind tol room d s).map ≡ true
  deed-sound d = subst (λ t. sound t.counter t.map ≡ true) (sym (deed-ends d).0) (claim_3 tol room s sane (calls_for tol room d s)).stays_sound

-- ---- every list of deeds

module _ (tol : Tolerance) (room : Room) where
  all_left : (ds : List Deed) (s : State) → sound s.counter s.map ≡ true → after_all tol room ds s ≡ after tol room (written_out tol room ds s) s
  unfolding after_all written_out after
  all_left [] s sane = refl
  all_left (d ∷ ds) s sane =
      let t = state_behind tol room d s in
      all_left ds t (deed-sound tol room s sane d)
      ∙ (ap (after tol room (written_out tol room ds t)) (deed-ends tol room s sane d).0 ∙ sym (after-append tol room (calls_for tol room d s) (written_out tol room ds t) s))

  all_told : (ds : List Deed) (s : State) → sound s.counter s.map ≡ true → AllDeedsTold tol room ds s
  unfolding AllDeedsTold
  all_told [] s sane = refl
  all_told (d ∷ ds) s sane = ((deed-ends tol room s sane d).1, all_told ds (state_behind tol room d s) (deed-sound tol room s sane d))

pub deed-claim_3 : DeedClaim3
deed-claim_3 tol room s sane ds =
    let left = all_left tol room ds s sane in
    let whole = claim_3 tol room s sane (written_out tol room ds s) in
    record {
      state_left = left;
      stays_sound = subst (λ t. sound t.counter t.map ≡ true) (sym left) whole.stays_sound;
      demand_3 = whole;
      deeds_told = all_told tol room ds s sane;
    }
