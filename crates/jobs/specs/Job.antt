-- Document 02 (a), on maps: "Take up to 64 edits as one job, each working on the map the last one left. Either all are made or the map stays as it was."
use Rattle.jobs.specs.Answers.{JobAnswer}
use Rattle.std.specs.Prelude.{ℕ, suc, Bool, ◌&&◌, cond, List, [], ◌∷◌, map, leb, take, Err, Ok}
use Rattle.lists.specs.Select.{any, each, keep}
use Rattle.entities.specs.Records.{Map, ChangeSet}
use Rattle.rules.specs.Names.{Tolerance, Refusal, EntityRef}
use Rattle.rules.specs.Sound.{sound, Room, Lists}
use Rattle.rules.specs.Edit.{Res, Edited}
use Rattle.rules.specs.Ops.{Command, State, edit, settled, accepted_as, fits_lists}
use Rattle.rules.specs.Demand.{entities, among, appeared, vanished}
use Rattle.report.specs.Report.{counts}
use Rattle.jobs.specs.declared.Job.{Job}
use Rattle.jobs.specs.declared.JobRefusal.TheVariants.{TooManyEdits, Unsound, NoRoom, EditRefused}

-- ---- a job

abbrev pub max_edits : ℕ
max_edits = 64

-- the edits of a job, in order
abbrev pub commands : Job → List Command
commands j = map (λ e. e.command) (take j.count j.edits)

-- ---- its edits

-- One edit of a job: "An edit's own 10 within a job tests the map only." 9 cannot come: the map was tested, and every edit keeps it sound.
unfoldable pub edit_once : Tolerance → Room → Command → State → Res Edited
edit_once tol room c s = settled room s.counter (edit tol c s)

-- What edits come to: the state that they leave, with each edit's change set in order; or the place of the one that is refused, and its refusal. A state is
-- a map with its counter or, in crate `job_step`, lent memory with its counter.
pub data Run (S : Type 0) : Type 0 where
  done : S → List ChangeSet → Run S
  stopped : ℕ → Refusal → Run S

abbrev pub preceded : {S : Type 0} → ChangeSet → Run S → Run S
preceded cs (done s css) = done s (cs ∷ css)
preceded cs (stopped place r) = stopped place r

-- "each working on the map the last one left"; the first of them has this place
unfoldable pub edits : Tolerance → Room → ℕ → List Command → State → Run State
edits tol room place [] s = done s []
edits tol room place (c ∷ cs) s =
    elim (edit_once tol room c s) [ Err r ↦ stopped place r | Ok e ↦ preceded e.changes (edits tol room (suc place) cs (accepted_as s e).state) ]

-- ---- the net change set

-- some edit lists it as modified
unfoldable pub listed_by : List ChangeSet → EntityRef → Bool
listed_by css e = any (λ cs. among e cs.modified) css

-- "The change set is the net one: created and deleted are exact between the job's two ends, modified holds what stands at both and some edit lists as
-- modified, and the warnings follow one another."
unfoldable pub net : Map → Map → List ChangeSet → ChangeSet
net m n css =
    record {
      created = appeared m n;
      modified = keep (λ e. among e (entities n) && listed_by css e) (entities m);
      deleted = vanished m n;
      warnings = each (λ cs. cs.warnings) css;
    }

-- ---- one call of a job

-- A call brings the job, whether each slice of the second area is as long as the map's, and the lengths of the slices lent for its lists.
pub record JobCall : Type 0 where
  pub job : Job
  pub area : Bool
  pub lists : Lists

pub record JobOutcome : Type 0 where
  pub state : State
  pub changes : ChangeSet
  pub answer : JobAnswer

abbrev pub nothing : ChangeSet
nothing = record { created = []; modified = []; deleted = []; warnings = [] }

abbrev pub refused_job : State → JobAnswer → JobOutcome
refused_job s a = record { state = s; changes = nothing; answer = a }

-- "a net list or the warnings too long for their slice is 10 at the end"
abbrev pub finish_job : Lists → State → Run State → JobOutcome
finish_job ls s (stopped place r) = refused_job s (Err (EditRefused place r))
finish_job ls s (done t css) =
    let cs = net s.map t.map css in
    cond (fits_lists ls cs) (record { state = t; changes = cs; answer = Ok (counts cs) }) (refused_job s (Err NoRoom))

-- "Checks: more than 64 edits is 13, before all else, an area with a slice shorter than the map's is 10 after 9, an edit refused is 12", then the lists.
unfoldable pub job_map : Tolerance → Room → JobCall → State → JobOutcome
job_map tol room c s =
    cond (leb c.job.count max_edits)
    (cond (sound s.counter s.map)
    (cond c.area (finish_job c.lists s (edits tol room 1 (commands c.job) s)) (refused_job s (Err NoRoom)))
    (refused_job s (Err Unsound)))
    (refused_job s (Err TooManyEdits))
