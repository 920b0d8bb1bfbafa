-- Demand 3 on lent memory, over lists in which edits and jobs stand side by side.
use Rattle.std.specs.Prelude.{◌≡◌, true, List, [], ◌∷◌, map, ℕ}
use Rattle.rules.specs.Names.{Tolerance}
use Rattle.rules.specs.Sound.{Room}
use Rattle.rules.specs.Ops as O
use Rattle.tables.specs.View.{Tables}
use Rattle.tables.specs.Formed.{sound_tables}
use Rattle.store.specs.Store.{room_of}
use Rattle.report.specs.Report.{listed, warned}
use Rattle.step.specs.Step.{Lent, closing, lists_of, state_of}
use Rattle.step.specs.Run.{Held, Lending, call, call_on, held_in, lend, lengths_of, map_in}
use Rattle.jobs.specs.declared.Job.{Job}
use Rattle.jobs.specs.Job.{JobCall, JobOutcome, job_map}
use Rattle.job_laws.specs.Deeds.{Deed, an_edit, a_job, DeedDemand3, after_all, state_behind}
use Rattle.area.specs.Area.{area_fits}
use Rattle.job_step.specs.Job.{JobEnded, job_lent, job_step}

-- ---- one deed of a list

-- what is a job's own: the job, the second area and "the slices lent for its lists"
pub record JobLending : Type 0 where
  pub job : Job
  pub area : Tables
  pub created : List ℕ
  pub modified : List ℕ
  pub deleted : List ℕ
  pub warnings : List ℕ

pub data TableDeed : Type 0 where
  edit_with : Lending → TableDeed
  job_with : JobLending → TableDeed

abbrev pub lend_job : Held → JobLending → Lent
lend_job h c = record { counter = h.counter; tables = h.tables; created = c.created; modified = c.modified; deleted = c.deleted; warnings = c.warnings }

abbrev pub call_job : Tolerance → Held → JobLending → JobEnded
call_job tol h c = job_step tol c.job (job_lent (lend_job h c) c.area)

abbrev pub held_behind : Tolerance → TableDeed → Held → Held
held_behind tol (edit_with c) h = held_in (call tol h c).lent
held_behind tol (job_with c) h = held_in (call_job tol h c).lent

-- the same job on a map: of what is lent it takes lengths alone
abbrev pub job_on : Held → JobLending → JobCall
job_on h c = record { job = c.job; area = area_fits h.tables c.area; lists = lists_of (lend_job h c) }

abbrev pub deed_on : Held → TableDeed → Deed
deed_on h (edit_with c) = an_edit (call_on h c)
deed_on h (job_with c) = a_job (job_on h c)

-- ---- a list of edits and jobs

-- each on the tables and the counter as the last one left them, a refused one too
unfoldable pub held_after_all : Tolerance → List TableDeed → Held → Held
held_after_all tol [] h = h
held_after_all tol (d ∷ ds) h = held_after_all tol ds (held_behind tol d h)

-- ---- the claim

-- A job leaves and answers on lent memory what it leaves and answers on maps: the map and the counter, the answer, and in the lists its change set. A refused
-- job's is empty, and its lists stay.
pub record JobClosed (c : JobLending) (e : JobEnded) (o : JobOutcome) : Type 0 where
  pub state_is : state_of e.lent ≡ o.state
  pub answer_is : e.answer ≡ o.answer
  pub created_is : e.lent.created ≡ listed c.created o.changes.created
  pub modified_is : e.lent.modified ≡ listed c.modified o.changes.modified
  pub deleted_is : e.lent.deleted ≡ listed c.deleted o.changes.deleted
  pub warnings_is : e.lent.warnings ≡ warned c.warnings o.changes.warnings

abbrev pub Closed : Tolerance → Room → TableDeed → Held → O.State → Type 0
Closed tol room (edit_with c) h s =
    let o = O.step_map tol room (call_on h c) s in
    call tol h c ≡ closing c.command (lend h c) o.state o.answer
Closed tol room (job_with c) h s = JobClosed c (call_job tol h c) (job_map tol room (job_on h c) s)

-- along the whole list, beside the same list on maps, which never looks at the memory again
unfoldable pub AllClosed : Tolerance → Room → List TableDeed → Held → O.State → Type 0
AllClosed tol room [] h s = map_in h ≡ s
AllClosed tol room (d ∷ ds) h s = (map_in h ≡ s) × Closed tol room d h s × AllClosed tol room ds (held_behind tol d h) (state_behind tol room (deed_on h d) s)

pub record TableDeedDemand3 (tol : Tolerance) (h : Held) (ds : List TableDeed) : Type 0 where
  -- the map is what documents 01 and 02 make of it, deed by deed
  pub map_left : map_in (held_after_all tol ds h) ≡ after_all tol (room_of h.tables) (map (deed_on h) ds) (map_in h)
  pub all_closed : AllClosed tol (room_of h.tables) ds h (map_in h)
  -- lent memory stays sound, and as long as it was
  pub stays_sound : sound_tables (held_after_all tol ds h).counter (held_after_all tol ds h).tables ≡ true
  pub lengths_left : lengths_of (held_after_all tol ds h).tables ≡ lengths_of h.tables
  -- links and neighbours reciprocal, no lane twice in a list, the links the book's, and the lists of every accepted edit and of every made job exact
  pub demand_3 : DeedDemand3 tol (room_of h.tables) (map_in h) (map (deed_on h) ds)

-- for every tolerance, every sound lent memory and every list of edits and jobs
abbrev pub TableDeedClaim3 : Type 0
TableDeedClaim3 = (tol : Tolerance) (h : Held) → sound_tables h.counter h.tables ≡ true → (ds : List TableDeed) → TableDeedDemand3 tol h ds
