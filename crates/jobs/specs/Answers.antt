-- What a job answers, in document 02's numbers. "Numbers above 12 carry no entity", and 9 and 10 have none.
use Rattle.entities.specs.declared.EntityRef.{EntityRef}
use Rattle.std.specs.Prelude.{ℕ, Option, None, Result, Ok, Err}
use Rattle.entities.specs.Types.{refusal_number, refusal_entity}
use Rattle.report.specs.declared.Counts.{Counts}
use Rattle.jobs.specs.declared.JobRefusal.{JobRefusal}
use Rattle.jobs.specs.declared.JobRefusal.TheVariants.{TooManyEdits, Unsound, NoRoom, EditRefused}

-- What a job answers: the counts of its net lists, or why it was not made.
abbrev pub JobAnswer : Type 0
JobAnswer = Result Counts JobRefusal

abbrev pub job_number : JobAnswer → ℕ
job_number (Ok n) = 0
job_number (Err TooManyEdits) = 13
job_number (Err Unsound) = 9
job_number (Err NoRoom) = 10
job_number (Err (EditRefused place r)) = 12

-- "12 with its place counted from 1, its own number and its entity"
abbrev pub job_place : JobAnswer → ℕ
job_place (Ok n) = 0
job_place (Err TooManyEdits) = 0
job_place (Err Unsound) = 0
job_place (Err NoRoom) = 0
job_place (Err (EditRefused place r)) = place

abbrev pub job_own_number : JobAnswer → ℕ
job_own_number (Ok n) = 0
job_own_number (Err TooManyEdits) = 0
job_own_number (Err Unsound) = 0
job_own_number (Err NoRoom) = 0
job_own_number (Err (EditRefused place r)) = refusal_number r

abbrev pub job_entity : JobAnswer → Option EntityRef
job_entity (Ok n) = None
job_entity (Err TooManyEdits) = None
job_entity (Err Unsound) = None
job_entity (Err NoRoom) = None
job_entity (Err (EditRefused place r)) = refusal_entity r

abbrev pub no_counts : Counts
no_counts = record { created = 0; modified = 0; deleted = 0; warnings = 0 }

abbrev pub job_counts : JobAnswer → Counts
job_counts (Ok n) = n
job_counts (Err refusal) = no_counts
