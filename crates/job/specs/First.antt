-- The tests before a job's first edit. Nothing that a host calls rests on this page; `job_step` (crate `job_step`) has them.
use Rattle.std.specs.Prelude.{ℕ, cond, Result, Ok, Err, ⊤, leb}
use Rattle.tables.specs.View.{Tables}
use Rattle.tables.specs.Formed.{sound_tables}
use Rattle.jobs.specs.declared.JobRefusal.{JobRefusal}
use Rattle.jobs.specs.declared.JobRefusal.TheVariants.{TooManyEdits, Unsound, NoRoom}
use Rattle.jobs.specs.Job.{max_edits}
use Rattle.area.specs.Area.{area_fits}

abbrev pub first_tests : ℕ → Tables → ℕ → Tables → Result ⊤ JobRefusal
first_tests counter t edits area =
    cond (leb edits max_edits)
    (cond (sound_tables counter t) (cond (area_fits t area) (Ok tt) (Err NoRoom)) (Err Unsound))
    (Err TooManyEdits)
