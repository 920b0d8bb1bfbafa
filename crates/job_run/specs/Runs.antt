-- A run through a job's edits. Nothing that a host calls rests on this page; `table_edits` (crate `job_step`) is what it makes.
use Rattle.jobs.specs.declared.Done.{Done}
use Rattle.jobs.specs.declared.RefusedEdit.{RefusedEdit}
use Rattle.std.specs.Prelude.{◌≡◌, ℕ, ◌+◌, ◌*◌, ◌≤◌, cond, List, ◌⊎◌, ltb, length, Ok, Result, Err}
use Rattle.lists.specs.Select.{each}
use Rattle.entities.specs.Records.{ChangeSet, Issue}
use Rattle.rules.specs.Names.{EntityRef}
use Rattle.tables.specs.View.{Tables}
use Rattle.report.specs.Report.{warned}
use Rattle.step.specs.Run.{Held, lengths_of}
use Rattle.jobs.specs.Job as J
use Rattle.jobs.specs.Job.{Run}
use Rattle.job_marks.specs.Marks.{mark_all}
use Rattle.job_turn.specs.Turn.{pairs_of}

-- what edits warn of, one after the other, and what they list as modified
abbrev pub all_warnings : List ChangeSet → List Issue
all_warnings css = each (λ cs. cs.warnings) css

abbrev pub all_modified : List ChangeSet → List EntityRef
all_modified css = each (λ cs. cs.modified) css

-- ---- the rows of warnings

-- an edit's warnings go behind those of the edits before it, but no further than this
abbrev pub row_for : ℕ → ℕ → ℕ
row_for told rows = cond (ltb told rows) told rows

-- the edits are all made, with no more warnings than this
abbrev pub AllWithin : ℕ → Run Held → Type 0
AllWithin rows (J.stopped place r) = ⊥
AllWithin rows (J.done k css) = length (all_warnings css) ≤ rows

-- no edit has more warnings (crate `list_limits`)
abbrev pub most_warnings : ℕ
most_warnings = 2048

-- rows enough: behind the first `rows` for those of any edit, or for all that there are
abbrev pub WarningRoom : Run Held → ℕ → ℕ → Type 0
WarningRoom run rows n = ((rows + most_warnings) * 10 ≤ n) ⊎ (AllWithin rows run × (rows * 10 ≤ n))

-- ---- the run

-- Its answer, the tables that it leaves, the marks, and the warnings if they are no more than `rows`. Where an edit was refused only the tables' lengths are
-- told: they are put back.
abbrev pub RanAs : Tables → List ℕ → ℕ → List ℕ → Tables → Run Held → Result Done RefusedEdit → Tables → List ℕ → List ℕ → Type 0
RanAs old ms rows w t (J.stopped place r) a t' ms' w' = (a ≡ Err (record { place = place; refusal = r })) × (lengths_of t' ≡ lengths_of t)
RanAs old ms rows w t (J.done k css) a t' ms' w' =
    (a ≡ Ok (record { counter = k.counter; warnings = (length (all_warnings css)) }))
    × ((t' ≡ k.tables)
    × ((ms' ≡ mark_all old (pairs_of (all_modified css)) ms) × (length (all_warnings css) ≤ rows → w' ≡ warned w (all_warnings css))))
