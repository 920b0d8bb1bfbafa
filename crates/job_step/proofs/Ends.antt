-- One call of a job, by how it ends: 13, 9, the area's own 10, or its edits; what it leaves in the area, and that a refused one leaves all else. Assumes nothing.
use Rattle.std.specs.Prelude.{Err}
use mathlib.Core.Path.{◌≡◌, refl, ap, ◌∙◌}
use mathlib.Core.List.{List, ◌∷◌}
use mathlib.Core.Bool.{Bool, true, false}
use lib.Dec.{leb}
use Rattle.rules.specs.Names.{Tolerance, Refusal}
use Rattle.rules.specs.Ops.{Command, fits_lists}
use Rattle.tables.specs.View.{Tables, view}
use Rattle.tables.specs.Formed.{sound_tables}
use Rattle.step.specs.Step.{Lent, lists_of}
use Rattle.store.specs.Store.{room_of}
use Rattle.step.specs.Run.{Held, held_in, map_in}
use Rattle.jobs.specs.declared.Job.{Job}
use Rattle.jobs.specs.declared.JobRefusal.TheVariants.{TooManyEdits, Unsound, NoRoom, EditRefused}
use Rattle.jobs.specs.Answers.{job_number}
use Rattle.jobs.specs.Job.{Run, done, stopped, max_edits, commands, edit_once, net}
use Rattle.area.specs.Area.{area_fits, copied, put_back}
use Rattle.job_step.specs.Job.{JobLent, JobEnded, refusing, ending, job_step, table_edits}
use Rattle.job_step.proofs.Area.{copied-front}
use Rattle.job_step.proofs.Edits.{edits-refused}

-- ---- the area of a job that came to its edits

ending-area : (l : Lent) (area : Tables) (r : Run Held) → (ending l area r).area ≡ area
ending-area l area (stopped place r) = refl
ending-area l area (done h css) = tests (fits_lists (lists_of l) (net (view l.tables) (view h.tables) css)) refl
  where
    tests : (fits : Bool) → fits_lists (lists_of l) (net (view l.tables) (view h.tables) css) ≡ fits → (ending l area (done h css)).area ≡ area
    tests true e = rw e
    tests false e = rw e

-- ---- the tests, one by one

module _ (tol : Tolerance) (j : Job) (l : JobLent) where
  pub job_too_many : leb j.count max_edits ≡ false → job_step tol j l ≡ refusing l.lent l.area (Err TooManyEdits)
  unfolding job_step
  job_too_many h = rw h

  module _ (few : leb j.count max_edits ≡ true) where
    pub job_unsound : sound_tables l.lent.counter l.lent.tables ≡ false → job_step tol j l ≡ refusing l.lent l.area (Err Unsound)
    unfolding job_step
    job_unsound h = rw (few, h)

    module _ (sane : sound_tables l.lent.counter l.lent.tables ≡ true) where
      pub job-short : area_fits l.lent.tables l.area ≡ false → job_step tol j l ≡ refusing l.lent l.area (Err NoRoom)
      unfolding job_step
      job-short h = rw (few, sane, h)

      module _ (fits : area_fits l.lent.tables l.area ≡ true) where
        pub job-runs : job_step tol j l ≡ ending l.lent (copied l.lent.tables l.area) (table_edits tol 1 (commands j) (held_in l.lent))
        unfolding job_step
        job-runs = rw (few, sane, fits)

        -- "it begins with the old map's slices as they came", "made or not"
        pub job-area-begins : put_back l.lent.tables (job_step tol j l).area ≡ l.lent.tables
        unfolding job_step
        job-area-begins =
            rw (few, sane, fits)
            (ap (put_back l.lent.tables) (ending-area l.lent (copied l.lent.tables l.area) (table_edits tol 1 (commands j) (held_in l.lent)))
            ∙ copied-front l.lent.tables l.area)

        -- "12 with its place counted from 1": the first edit's place
        pub job-first-refused : (c : Command) (cs : List Command) → commands j ≡ c ∷ cs → (r : Refusal)
            → edit_once tol (room_of l.lent.tables) c (map_in (held_in l.lent)) ≡ Err r
            → (job_step tol j l).answer ≡ Err (EditRefused 1 r)
        unfolding job_step
        job-first-refused c cs e r y =
            let area = copied l.lent.tables l.area in
            rw (few, sane, fits)
            (ap (λ x. (ending l.lent area (table_edits tol 1 x (held_in l.lent))).answer) e
            ∙ ap (λ x. (ending l.lent area x).answer) (edits-refused tol 1 c cs (held_in l.lent) r y))

-- ---- a job that is not made

-- it leaves the counter, the map's slices and the lists as they came
abbrev Untouched : Lent → JobEnded → Type 0
Untouched l e = (job_number e.answer ≡ 0 → ⊥) → e.lent ≡ l

ending-untouched : (l : Lent) (area : Tables) (r : Run Held) → Untouched l (ending l area r)
ending-untouched l area (stopped place r) = λ refused. refl
ending-untouched l area (done h css) = tests (fits_lists (lists_of l) (net (view l.tables) (view h.tables) css)) refl
  where
    tests : (fits : Bool) → fits_lists (lists_of l) (net (view l.tables) (view h.tables) css) ≡ fits → Untouched l (ending l area (done h css))
    tests true e = rw e (λ refused. absurd (refused refl))
    tests false e = rw e (λ refused. refl)

module _ (tol : Tolerance) (j : Job) (l : JobLent) where
  pub job-untouched : Untouched l.lent (job_step tol j l)
  unfolding job_step
  job-untouched = tests (leb j.count max_edits) refl (sound_tables l.lent.counter l.lent.tables) refl (area_fits l.lent.tables l.area) refl
    where
      tests : (few : Bool) → leb j.count max_edits ≡ few → (sane : Bool) → sound_tables l.lent.counter l.lent.tables ≡ sane → (fits : Bool)
          → area_fits l.lent.tables l.area ≡ fits → Untouched l.lent (job_step tol j l)
      tests false e sane f fits g = rw e (λ refused. refl)
      tests true e false f fits g = rw (e, f) (λ refused. refl)
      tests true e true f false g = rw (e, f, g) (λ refused. refl)
      tests true e true f true g = rw (e, f, g) (ending-untouched l.lent (copied l.lent.tables l.area) (table_edits tol 1 (commands j) (held_in l.lent)))
