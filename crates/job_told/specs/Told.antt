-- A job that is made, told. Nothing that a host calls rests on this page.
use Rattle.std.specs.Prelude.{◌≡◌, ℕ, ◌*◌, ◌≤◌, List, length, take}
use Rattle.lists.specs.Rows.{over}
use Rattle.tables.specs.View.{Tables}
use Rattle.report.specs.Report.{warned}
use Rattle.step.specs.Run.{Held}
use Rattle.jobs.specs.Job.{Run, done, stopped}
use Rattle.job_run.specs.Runs.{all_warnings}

-- the edits are all made: the tables that they left, and how many warnings they have
abbrev pub MadeAll : Run Held → Tables → ℕ → Type 0
MadeAll (stopped place r) t n = ⊥
MadeAll (done k css) t n = (t ≡ k.tables) × (n ≡ length (all_warnings css))

-- as many warnings of a job are kept while its edits are made
abbrev pub kept_rows : ℕ
kept_rows = 512

-- few warnings were kept: over the front of the lent list they are its warnings
abbrev pub Kept : Run Held → List ℕ → List ℕ → Type 0
Kept (stopped place r) kept w = ⊥
Kept (done k css) kept w =
    length (all_warnings css) ≤ kept_rows → length (all_warnings css) * 10 ≤ length w
    → over w 0 (take (length (all_warnings css) * 10) kept) ≡ warned w (all_warnings css)

abbrev pub ToldAs : List ℕ → Run Held → Tables → List ℕ → Type 0
ToldAs w (stopped place r) t w' = t ≡ t
ToldAs w (done k css) t w' = (t ≡ k.tables) × (w' ≡ warned w (all_warnings css))
