-- Demand 3 of the calls of `apply` of crates `allocator` and `job`: their contracts say of each call what `Applied` says, and the claim is about every list
-- in which such calls stand side by side.
use Rattle.std.specs.Prelude.{◌≡◌, true, List, [], ◌∷◌, map}
use Rattle.rules.specs.Names.{Tolerance}
use Rattle.tables.specs.Formed.{sound_tables}
use Rattle.store.specs.Store.{room_of}
use Rattle.step.specs.Step.{Ended}
use Rattle.step.specs.Run.{Held, held_in, lend, lengths_of, map_in}
use Rattle.ops.specs.Calls as O
use Rattle.jobs.specs.declared.Job.{Job}
use Rattle.job_laws.specs.Deeds.{DeedDemand3, after_all}
use Rattle.job_step.specs.Job.{JobLent, JobEnded, job_lent, job_step}
use Rattle.job_step.specs.Run.{TableDeed, edit_with, job_with, deed_on, lend_job, AllClosed}

-- ---- one call

-- The contract of `apply`: made with a tolerance and a job on what is lent, a call leaves and answers this.
abbrev pub Applied : Tolerance → Job → JobLent → JobEnded → Type 0
Applied tol j l e = e ≡ job_step tol j l

-- ---- a list of calls of both

-- what a call left and answered
pub data Outcome : Type 0 where
  of_edit : Ended → Outcome
  of_job : JobEnded → Outcome

abbrev pub held_of : Outcome → Held
held_of (of_edit e) = held_in e.lent
held_of (of_job e) = held_in e.lent

abbrev pub Called : Tolerance → TableDeed → Held → Outcome → Type 0
Called tol (edit_with c) h (of_edit e) = O.Applied tol c.command (lend h c) e
Called tol (edit_with c) h (of_job e) = ⊥
Called tol (job_with c) h (of_edit e) = ⊥
Called tol (job_with c) h (of_job e) = Applied tol c.job (job_lent (lend_job h c) c.area) e

-- each gets "the map's same slices and the counter as the last call left them", a refused one too, and lists of its own
unfoldable pub AllCalled : Tolerance → List TableDeed → Held → List Outcome → Type 0
AllCalled tol [] h [] = h ≡ h
AllCalled tol [] h (e ∷ es) = ⊥
AllCalled tol (d ∷ ds) h [] = ⊥
AllCalled tol (d ∷ ds) h (e ∷ es) = Called tol d h e × AllCalled tol ds (held_of e) es

-- what the last of them left
unfoldable pub held_by : List Outcome → Held → Held
held_by [] h = h
held_by (e ∷ es) h = held_by es (held_of e)

-- ---- the claim

-- "Demand 3 is a single claim about the whole list of calls": `ds` are the calls' edits, jobs and lists, `es` what each left and answered.
pub record CallsDemand3 (tol : Tolerance) (h : Held) (ds : List TableDeed) (es : List Outcome) : Type 0 where
  -- the map is what documents 01 and 02 make of it: at the end, and in all that each call leaves and answers
  pub map_left : map_in (held_by es h) ≡ after_all tol (room_of h.tables) (map (deed_on h) ds) (map_in h)
  pub all_closed : AllClosed tol (room_of h.tables) ds h (map_in h)
  -- lent memory stays sound, and as long as it was
  pub stays_sound : sound_tables (held_by es h).counter (held_by es h).tables ≡ true
  pub lengths_left : lengths_of (held_by es h).tables ≡ lengths_of h.tables
  -- links and neighbours reciprocal, no lane twice in a list, the links the book's, and the lists of every accepted edit and of every made job exact
  pub demand_3 : DeedDemand3 tol (room_of h.tables) (map_in h) (map (deed_on h) ds)

-- for every tolerance, every sound lent memory and every list of calls
abbrev pub CallsClaim3 : Type 0
CallsClaim3 =
    (tol : Tolerance) (h : Held) → sound_tables h.counter h.tables ≡ true → (ds : List TableDeed) (es : List Outcome) → AllCalled tol ds h es → CallsDemand3 tol h ds es
