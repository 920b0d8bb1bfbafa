-- The way back from tables that made edits left, and the warnings: kept ones copied, or told by another run. Assumes nothing.
use Rattle.jobs.specs.declared.Done.{Done}
use Rattle.std.specs.Prelude.{Result}
use Rattle.jobs.specs.declared.RefusedEdit.{RefusedEdit}
use mathlib.Core.Path.{◌≡◌, refl, ap, ◌∙◌, subst}
use mathlib.Core.Bool.{true}
use mathlib.Core.List.{List}
use Prim.Native.Nat.{ℕ, ◌*◌, ◌≤◌}
use native.Mathlib.Omega.{arith}
use lib.ListN.{length, take, get_or}
use lib.Seq.{take-length}
use borrow.Author.Tests.{le-leb}
use Rattle.lists.specs.Rows.{over}
use Rattle.entities.specs.declared.Tolerance.{Tolerance}
use Rattle.tables.specs.View.{Tables, tables_of}
use Rattle.tables.specs.Formed.{sound_tables}
use Rattle.step.specs.Run.{Held, lengths_of}
use Rattle.jobs.specs.declared.Job.{Job}
use Rattle.jobs.specs.Job.{Run, done, stopped, commands}
use Rattle.area.specs.Area.{area_fits, put_back}
use Rattle.job_step.specs.Job.{table_edits}
use Rattle.job_step.proofs.Area.{area_same}
use Rattle.job_step.proofs.Edits.{edits-done}
use Rattle.job_run.specs.Runs.{AllWithin, RanAs}
use Rattle.job_told.specs.Told.{Kept, MadeAll, ToldAs, kept_rows}

-- ---- slices put back

-- an area fits what is as long
self-fits : (t : Tables) → area_fits t t ≡ true
unfolding area_fits
self-fits t =
    rw (
      le-leb (length t.lanes) (length t.lanes) (omega arith),
      le-leb (length t.boundaries) (length t.boundaries) (omega arith),
      le-leb (length t.roads) (length t.roads) (omega arith),
      le-leb (length t.junctions) (length t.junctions) (omega arith),
      le-leb (length t.rules) (length t.rules) (omega arith),
      le-leb (length t.stop_lines) (length t.stop_lines) (omega arith),
      le-leb (length t.crosswalks) (length t.crosswalks) (omega arith),
      le-leb (length t.coordinates) (length t.coordinates) (omega arith),
    )

pub same-fits : (t old : Tables) → lengths_of t ≡ lengths_of old → area_fits t old ≡ true
same-fits t old e = area_same old t old old e refl ∙ self-fits old

-- the way back looks at lengths alone
back_by : List ℕ → Tables → Tables
back_by ns old =
    tables_of (take (get_or ns 0 0) old.lanes) (take (get_or ns 1 0) old.boundaries) (take (get_or ns 2 0) old.roads) (take (get_or ns 3 0) old.junctions)
    (take (get_or ns 4 0) old.rules) (take (get_or ns 5 0) old.stop_lines) (take (get_or ns 6 0) old.crosswalks) (take (get_or ns 7 0) old.coordinates)

back_whole : (old : Tables) → back_by (lengths_of old) old ≡ old
unfolding back_by
back_whole old =
    rw (
      take-length old.lanes,
      take-length old.boundaries,
      take-length old.roads,
      take-length old.junctions,
      take-length old.rules,
      take-length old.stop_lines,
      take-length old.crosswalks,
      take-length old.coordinates,
    )

pub put-back-same : (t old : Tables) → lengths_of t ≡ lengths_of old → put_back t old ≡ old
unfolding put_back back_by
put-back-same t old e = ap (λ ns. back_by ns old) e ∙ back_whole old

-- ---- behind a run

module _ (tol : Tolerance) (j : Job) (counter : ℕ) (old : Tables) (sane : sound_tables counter old ≡ true) where
  abbrev run : Run Held
  run = table_edits tol 1 (commands j) (record { counter = counter; tables = old })

  pub made-lengths : (t : Tables) (n : ℕ) → MadeAll run t n → lengths_of t ≡ lengths_of old
  made-lengths t n l = go run refl l
    where
      go : (r : Run Held) → run ≡ r → MadeAll r t n → lengths_of t ≡ lengths_of old
      go (stopped p x) e l = absurd l
      go (done k css) e l = ap lengths_of l.0 ∙ (edits-done tol 1 (commands j) (record { counter = counter; tables = old }) sane k css e).1.1

-- ---- the warnings

module _ (t : Tables) (n : ℕ) where
  pub made-within : (r : Run Held) → MadeAll r t n → AllWithin n r
  made-within (stopped p x) l = l
  made-within (done k css) l = omega (arith, l.1)

  -- kept ones are copied
  pub kept-told : (r : Run Held) (kept w w' : List ℕ) → MadeAll r t n → Kept r kept w → n ≤ kept_rows → n * 10 ≤ length w → w' ≡ over w 0 (take (n * 10) kept)
      → ToldAs w r t w'
  kept-told (stopped p x) kept w w' l k few room e = absurd l
  kept-told (done q css) kept w w' l k few room e =
      (l.0, e ∙ (ap (λ m. over w 0 (take (m * 10) kept)) l.1 ∙ k (subst (λ m. m ≤ kept_rows) l.1 few) (subst (λ m. m * 10 ≤ length w) l.1 room)))

  -- the edits were made again, on tables that are the old ones
  module _ (old before t' : Tables) (ms ms' w w' : List ℕ) (x : Result Done RefusedEdit) where
    told-again : (r : Run Held) → MadeAll r t n → RanAs old ms n w before r x t' ms' w' → ToldAs w r t' w'
    told-again (stopped p y) l h = refl
    told-again (done q css) l h = (h.1.0, h.1.1.1 (omega (arith, l.1)))

    pub ran-told : (f : Tables → Run Held) (a b : Tables) → b ≡ a → MadeAll (f a) t n → RanAs old ms n w before (f b) x t' ms' w' → ToldAs w (f a) t' w'
    ran-told f a b e l h = told-again (f a) l (subst (λ z. RanAs old ms n w before (f z) x t' ms' w') e h)
