-- Demand 3 on lent memory, over every list in which edits and jobs stand side by side, from any sound memory, with any tolerances and anything lent. Assumes
-- nothing.
use Rattle.std.specs.Prelude.{Ok, Err}
use Rattle.jobs.specs.Answers.{JobAnswer}
use mathlib.Core.Path.{◌≡◌, refl, sym, ap, ◌∙◌, subst}
use mathlib.Core.Bool.{Bool, true, false}
use mathlib.Core.List.{List, [], ◌∷◌, map}
use lib.Dec.{leb}
use Rattle.lists.specs.Select.{each}
use Rattle.lists.proofs.Rows.{over-nil}
use Rattle.entities.specs.Records.{ChangeSet}
use Rattle.rules.specs.Names.{Tolerance}
use Rattle.rules.specs.Sound.{sound, Room}
use Rattle.rules.specs.Ops as O
use Rattle.laws.proofs.Claim.{lawful}
use Rattle.tables.specs.View.{Tables, view}
use Rattle.tables.specs.Formed.{sound_tables}
use Rattle.store.specs.Store.{room_of, writes}
use Rattle.report.specs.Report.{listed, warned, counts}
use Rattle.sound_facts.proofs.Found.{sound-map}
use Rattle.step.specs.Step.{lists_of}
use Rattle.step.specs.Run.{Held, lend, held_in, lengths_of, map_in}
use Rattle.step.proofs.Keeping.{closed, call_kept, room-same}
use Rattle.step.proofs.Claim.{keeps}
use Rattle.jobs.specs.declared.JobRefusal.TheVariants.{TooManyEdits, NoRoom, EditRefused}
use Rattle.jobs.specs.Job.{JobOutcome, Run, done, stopped, max_edits, commands, edits, net, refused_job, finish_job, job_map}
use Rattle.job_laws.specs.Deeds.{Deed, a_job, state_behind, after_all}
use Rattle.job_laws.proofs.Claim.{deed-claim_3}
use Rattle.area.specs.Area.{area_fits, copied}
use Rattle.job_step.specs.Job.{JobLent, JobEnded, refusing, making, ending, table_edits, job_lent}
use Rattle.job_step.specs.Run.{JobLending, TableDeed, edit_with, job_with, lend_job, call_job, held_behind, job_on, deed_on, held_after_all, JobClosed, Closed, AllClosed, TableDeedClaim3}
use Rattle.job_step.proofs.Edits.{Stays, Left, on_maps, edits-beside}
use Rattle.job_step.proofs.Area.{area_same}
use Rattle.job_step.proofs.Ends.{job_too_many, job-short, job-runs}

-- ---- one job

-- it closes as it does on the map, and what it leaves is sound and as long as it was
abbrev JobKept : Held → JobLending → JobEnded → JobOutcome → Type 0
JobKept h c e o = JobClosed c e o × Stays h (held_in e.lent)

module _ (tol : Tolerance) (h : Held) (sane : sound_tables h.counter h.tables ≡ true) (c : JobLending) where
  refused-kept : (area : Tables) (a : JobAnswer) → JobKept h c (refusing (lend_job h c) area a) (refused_job (map_in h) a)
  unfolding listed warned writes each
  refused-kept area a = (
    record {
      state_is = refl;
      answer_is = refl;
      created_is = sym (over-nil c.created 0);
      modified_is = sym (over-nil c.modified 0);
      deleted_is = sym (over-nil c.deleted 0);
      warnings_is = refl;
    },
    (sane, refl),
  )

  made_kept : (area : Tables) (k : Held) (cs : ChangeSet) → Stays h k
      → JobKept h c (making (lend_job h c) area k cs) (record { state = map_in k; changes = cs; answer = Ok (counts cs) })
  made_kept area k cs s = (record { state_is = refl; answer_is = refl; created_is = refl; modified_is = refl; deleted_is = refl; warnings_is = refl }, s)

  ending-kept : (area : Tables) (r : Run Held) → Left h r → JobKept h c (ending (lend_job h c) area r) (finish_job (lists_of (lend_job h c)) (map_in h) (on_maps r))
  ending-kept area (stopped place r) left = refused-kept area (Err (EditRefused place r))
  ending-kept area (done k css) left = lists (O.fits_lists (lists_of (lend_job h c)) (net (view h.tables) (view k.tables) css)) refl
    where
      lists : (fits : Bool) → O.fits_lists (lists_of (lend_job h c)) (net (view h.tables) (view k.tables) css) ≡ fits
          → JobKept h c (ending (lend_job h c) area (done k css)) (finish_job (lists_of (lend_job h c)) (map_in h) (on_maps (done k css)))
      lists true e = rw e (made_kept area k (net (view h.tables) (view k.tables) css) left)
      lists false e = rw e (refused-kept area (Err NoRoom))

  runs-kept : (area : Tables)
      → JobKept h c (ending (lend_job h c) area (table_edits tol 1 (commands c.job) h))
      (finish_job (lists_of (lend_job h c)) (map_in h) (edits tol (room_of h.tables) 1 (commands c.job) (map_in h)))
  runs-kept area =
      let r = table_edits tol 1 (commands c.job) h in
      let (same, left) = edits-beside tol 1 (commands c.job) h sane in
      subst (λ x. JobKept h c (ending (lend_job h c) area r) (finish_job (lists_of (lend_job h c)) (map_in h) x)) same (ending-kept area r left)

  -- by its tests
  pub job-kept : JobKept h c (call_job tol h c) (job_map tol (room_of h.tables) (job_on h c) (map_in h))
  unfolding job_map
  job-kept = tests (leb c.job.count max_edits) refl (area_fits h.tables c.area) refl
    where
      l : JobLent
      l = job_lent (lend_job h c) c.area

      good : sound h.counter (view h.tables) ≡ true
      good = sound-map h.counter h.tables sane

      tests : (few : Bool) → leb c.job.count max_edits ≡ few → (area : Bool) → area_fits h.tables c.area ≡ area
          → JobKept h c (call_job tol h c) (job_map tol (room_of h.tables) (job_on h c) (map_in h))
      tests false e area f = rw (job_too_many tol c.job l e, e) (refused-kept c.area (Err TooManyEdits))
      tests true e false f = rw (job-short tol c.job l e sane f, e, good, f) (refused-kept c.area (Err NoRoom))
      tests true e true f = rw (job-runs tol c.job l e sane f, e, good, f) (runs-kept (copied h.tables c.area))

-- ---- one deed

-- it closes as it does on the map, leaves its map, and what it leaves is sound and as long as it was
record DeedKept (tol : Tolerance) (h : Held) (d : TableDeed) : Type 0 where
  closes : Closed tol (room_of h.tables) d h (map_in h)
  map_left : map_in (held_behind tol d h) ≡ state_behind tol (room_of h.tables) (deed_on h d) (map_in h)
  stays : Stays h (held_behind tol d h)

deed-kept : (tol : Tolerance) (h : Held) → sound_tables h.counter h.tables ≡ true → (d : TableDeed) → DeedKept tol h d
deed-kept tol h sane (edit_with c) =
    let k = call_kept tol c.command (lend h c) sane (lawful tol c.command) (keeps tol c.command) in
    record { closes = closed tol c.command (lend h c) sane; map_left = k.map_left; stays = (k.stays_sound, k.lengths_left) }
deed-kept tol h sane (job_with c) = let (k, s) = job-kept tol h sane c in record { closes = k; map_left = k.state_is; stays = s }

-- ---- every list of deeds

-- of what is held a deed takes lengths alone
deeds_same : (h k : Held) → lengths_of k.tables ≡ lengths_of h.tables → (ds : List TableDeed) → map (deed_on k) ds ≡ map (deed_on h) ds
deeds_same h k e [] = refl
deeds_same h k e (edit_with c ∷ ds) = ap (λ xs. deed_on h (edit_with c) ∷ xs) (deeds_same h k e ds)
deeds_same h k e (job_with c ∷ ds) =
    ap (λ b. a_job (record { job = c.job; area = b; lists = lists_of (lend_job h c) }) ∷ map (deed_on k) ds) (area_same h.tables k.tables c.area c.area e refl)
    ∙ ap (λ xs. deed_on h (job_with c) ∷ xs) (deeds_same h k e ds)

-- what the list on lent memory and the list on maps have in common
record Beside (tol : Tolerance) (room : Room) (h : Held) (ds : List TableDeed) (deeds : List Deed) (s : O.State) : Type 0 where
  map_left : map_in (held_after_all tol ds h) ≡ after_all tol room deeds s
  all_closed : AllClosed tol room ds h s
  stays : Stays h (held_after_all tol ds h)

beside : (tol : Tolerance) (ds : List TableDeed) (h : Held) → sound_tables h.counter h.tables ≡ true
    → Beside tol (room_of h.tables) h ds (map (deed_on h) ds) (map_in h)
unfolding held_after_all after_all AllClosed
beside tol [] h sane = record { map_left = refl; all_closed = refl; stays = (sane, refl) }
beside tol (d ∷ ds) h sane =
    let next = held_behind tol d h in
    let q = deed-kept tol h sane d in
    let long = q.stays.1 in
    let s = state_behind tol (room_of h.tables) (deed_on h d) (map_in h) in
    let rest : Beside tol (room_of h.tables) next ds (map (deed_on h) ds) s =
    subst (λ x. Beside tol x next ds (map (deed_on h) ds) s) (room-same next.tables h.tables long)
    (subst (λ x. Beside tol (room_of next.tables) next ds x s) (deeds_same h next long ds)
    (subst (Beside tol (room_of next.tables) next ds (map (deed_on next) ds)) q.map_left (beside tol ds next q.stays.0))) in
    record { map_left = rest.map_left; all_closed = (refl, q.closes, rest.all_closed); stays = (rest.stays.0, rest.stays.1 ∙ long) }

pub table-deed-claim_3 : TableDeedClaim3
table-deed-claim_3 tol h sane ds =
    let b = beside tol ds h sane in
    record {
      map_left = b.map_left;
      all_closed = b.all_closed;
      stays_sound = b.stays.0;
      lengths_left = b.stays.1;
      demand_3 = deed-claim_3 tol (room_of h.tables) (map_in h) (sound-map h.counter h.tables sane) (map (deed_on h) ds);
    }
