-- What a job comes to once its edits have run. Nothing that a host calls rests on this page; `ending` (crate `job_step`) is what a job leaves.
use Rattle.jobs.specs.declared.Done.{Done}
use Rattle.jobs.specs.declared.RefusedEdit.{RefusedEdit}
use Rattle.jobs.specs.Answers.{JobAnswer}
use Rattle.std.specs.Prelude.{◌≡◌, true, cond, List, ℕ, Err, Ok, Result}
use Rattle.tables.specs.View.{Tables}
use Rattle.report.specs.Report.{listed}
use Rattle.room.specs.Room.{lists_fit}
use Rattle.jobs.specs.declared.JobRefusal.TheVariants.{NoRoom, EditRefused}
use Rattle.job_marks.specs.Marks.{sorted_tables}
use Rattle.job_net.specs.Net.{only_in, marked_both, net_counts}
use Rattle.job_decided.specs.declared.JobEnd.{JobEnd}

-- where all edits are made their tables are looked through
abbrev pub Sorted : Result Done RefusedEdit → Tables → Tables → Type 0
Sorted (Err stopped) t old = t ≡ t
Sorted (Ok made) t old = (sorted_tables t ≡ true) × (sorted_tables old ≡ true)

abbrev pub job_end : ℕ → JobAnswer → JobEnd
job_end counter a = record { counter = counter; answer = a }

-- refused at an edit; else made, or refused because the net lists do not fit the lent ones. They stand ready either way.
abbrev pub DecidedAs : ℕ → Tables → Tables → List ℕ → List ℕ → List ℕ → List ℕ → Result Done RefusedEdit → List ℕ → List ℕ → List ℕ → List ℕ → JobEnd → List ℕ → List ℕ → List ℕ → Type 0
DecidedAs counter t old ms all-created all-modified all-deleted (Err stopped) created modified deleted warnings r c m d = r ≡ job_end counter (Err (EditRefused stopped.place stopped.refusal))
DecidedAs counter t old ms all-created all-modified all-deleted (Ok made) created modified deleted warnings r c m d =
    let n = net_counts t old ms made.warnings in
    (r ≡ cond (lists_fit n created modified deleted warnings) (job_end made.counter (Ok n)) (job_end counter (Err NoRoom)))
    × ((c ≡ listed all-created (only_in t old)) × ((m ≡ listed all-modified (marked_both old t ms)) × (d ≡ listed all-deleted (only_in old t))))
