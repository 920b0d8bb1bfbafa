-- Demand 3, as a statement, over lists in which edits and jobs stand side by side.
use Rattle.jobs.specs.Answers.{JobAnswer}
use Rattle.std.specs.Prelude.{◌≡◌, true, List, [], ◌∷◌, ◌++◌, length, Err, Ok}
use Rattle.entities.specs.Records.{ChangeSet}
use Rattle.rules.specs.Names.{Tolerance}
use Rattle.rules.specs.Sound.{sound, Room, Lists}
use Rattle.rules.specs.Ops.{Command, State, Call, step_map, accepted_as, after}
use Rattle.rules.specs.Demand.{Exact, Told, Demand3}
use Rattle.report.specs.Report.{counts}
use Rattle.jobs.specs.declared.JobRefusal.TheVariants.{TooManyEdits, Unsound, NoRoom, EditRefused}
use Rattle.jobs.specs.Job.{JobCall, JobOutcome, commands, edit_once, job_map}

-- ---- edits and jobs

pub data Deed : Type 0 where
  an_edit : Call → Deed
  a_job : JobCall → Deed

abbrev pub state_behind : Tolerance → Room → Deed → State → State
state_behind tol room (an_edit c) s = (step_map tol room c s).state
state_behind tol room (a_job c) s = (job_map tol room c s).state

-- each on the map and the counter as the last one left them, a refused one too
unfoldable pub after_all : Tolerance → Room → List Deed → State → State
after_all tol room [] s = s
after_all tol room (d ∷ ds) s = after_all tol room ds (state_behind tol room d s)

-- ---- the list written out: "a made job stands for its edits in order, and a refused job for a refused call"

abbrev pub lengths : ChangeSet → Lists
lengths cs = record { created = length cs.created; modified = length cs.modified; deleted = length cs.deleted; warnings = length cs.warnings }

-- an edit of a job has no lists of its own: as a call it is lent lists that are as long as it needs
unfoldable pub edit_calls : Tolerance → Room → List Command → State → List Call
edit_calls tol room [] s = []
edit_calls tol room (c ∷ cs) s =
    elim (edit_once tol room c s) [ Err r ↦ [] | Ok e ↦ record { command = c; lists = lengths e.changes } ∷ edit_calls tol room cs (accepted_as s e).state ]

-- a refused call leaves the map, the counter and the link book, and so does no call
abbrev pub job_calls : Tolerance → Room → JobCall → State → JobAnswer → List Call
job_calls tol room c s (Ok n) = edit_calls tol room (commands c.job) s
job_calls tol room c s (Err TooManyEdits) = []
job_calls tol room c s (Err Unsound) = []
job_calls tol room c s (Err NoRoom) = []
job_calls tol room c s (Err (EditRefused place r)) = []

abbrev pub calls_for : Tolerance → Room → Deed → State → List Call
calls_for tol room (an_edit c) s = c ∷ []
calls_for tol room (a_job c) s = job_calls tol room c s (job_map tol room c s).answer

unfoldable pub written_out : Tolerance → Room → List Deed → State → List Call
written_out tol room [] s = []
written_out tol room (d ∷ ds) s = calls_for tol room d s ++ written_out tol room ds (state_behind tol room d s)

-- ---- the claim

-- a made job's net lists are exact between its two ends, and counted; a refused one leaves the state
abbrev pub JobTold : State → JobOutcome → JobAnswer → Type 0
JobTold s o (Ok n) = Exact s.map o.changes o.state.map × (n ≡ counts o.changes)
JobTold s o (Err TooManyEdits) = o.state ≡ s
JobTold s o (Err Unsound) = o.state ≡ s
JobTold s o (Err NoRoom) = o.state ≡ s
JobTold s o (Err (EditRefused place r)) = o.state ≡ s

abbrev pub DeedTold : Tolerance → Room → Deed → State → Type 0
DeedTold tol room (an_edit c) s = Told s (step_map tol room c s)
DeedTold tol room (a_job c) s = JobTold s (job_map tol room c s) (job_map tol room c s).answer

unfoldable pub AllDeedsTold : Tolerance → Room → List Deed → State → Type 0
AllDeedsTold tol room [] s = s ≡ s
AllDeedsTold tol room (d ∷ ds) s = DeedTold tol room d s × AllDeedsTold tol room ds (state_behind tol room d s)

-- Demand 3 of the whole list is demand 3 of the list written out, whose last map is that of the deeds; and every deed tells the truth.
pub record DeedDemand3 (tol : Tolerance) (room : Room) (s : State) (ds : List Deed) : Type 0 where
  pub state_left : after_all tol room ds s ≡ after tol room (written_out tol room ds s) s
  pub stays_sound : sound (after_all tol room ds s).counter (after_all tol room ds s).map ≡ true
  pub demand_3 : Demand3 tol room s (written_out tol room ds s)
  pub deeds_told : AllDeedsTold tol room ds s

-- The claim, for every tolerance, room, sound map and list of edits and jobs.
abbrev pub DeedClaim3 : Type 0
DeedClaim3 = (tol : Tolerance) (room : Room) (s : State) → sound s.counter s.map ≡ true → (ds : List Deed) → DeedDemand3 tol room s ds
