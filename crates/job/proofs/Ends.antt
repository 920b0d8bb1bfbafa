-- The tests before a job's first edit, and a job's end with another area. Assumes nothing.
use Rattle.jobs.specs.Answers.{JobAnswer}
use Rattle.std.specs.Prelude.{Result, Ok, Err, ⊤}
use mathlib.Core.Path.{◌≡◌, refl, sym, ap, ◌∙◌}
use mathlib.Core.Bool.{Bool, true, false}
use Prim.Native.Nat.{ℕ}
use native.Mathlib.Omega.{arith}
use lib.Dec.{leb}
use Rattle.rules.specs.Names.{Tolerance}
use Rattle.rules.specs.Ops.{fits_lists}
use Rattle.tables.specs.View.{Tables, view}
use Rattle.tables.specs.Formed.{sound_tables}
use Rattle.step.specs.Step.{Lent, lists_of}
use Rattle.step.specs.Run.{Held}
use Rattle.jobs.specs.declared.Job.{Job}
use Rattle.jobs.specs.declared.JobRefusal.{JobRefusal}
use Rattle.jobs.specs.declared.JobRefusal.TheVariants.{NoRoom, TooManyEdits, Unsound}
use Rattle.jobs.specs.Job.{Run, done, stopped, max_edits, net}
use Rattle.area.specs.Area.{area_fits}
use Rattle.job_step.specs.Job.{JobEnded, JobLent, ending, job_step, refusing, job_ended}
use Rattle.job_step.proofs.Ends.{job_too_many, job_unsound, job-short}
use Rattle.job.specs.First.{first_tests}

-- ---- the first tests

abbrev First : Type 0
First = Result ⊤ JobRefusal

clash : {A : Type 0} (a : JobRefusal) → ◌≡◌ {A = First} (Ok tt) (Err a) → A
clash a e = absurd (nothing cc)
  where
    nothing : ◌≡◌ {A = ℕ} 0 1 → ⊥
    nothing z = omega arith

same_answer : (a b : JobRefusal) → ◌≡◌ {A = First} (Err a) (Err b) → a ≡ b
same_answer a b e = cc

module _ (counter : ℕ) (t : Tables) (edits : ℕ) (area : Tables) where
  pub many-refused : leb edits max_edits ≡ false → first_tests counter t edits area ≡ Err TooManyEdits
  many-refused h = rw h

  module _ (few : leb edits max_edits ≡ true) where
    pub unsound_refused : sound_tables counter t ≡ false → first_tests counter t edits area ≡ Err Unsound
    unsound_refused h = rw (few, h)

    module _ (sane : sound_tables counter t ≡ true) where
      pub short-refused : area_fits t area ≡ false → first_tests counter t edits area ≡ Err NoRoom
      short-refused h = rw (few, sane, h)

      pub all-passed : area_fits t area ≡ true → first_tests counter t edits area ≡ Ok tt
      all-passed h = rw (few, sane, h)

module _ (l : JobLent) (j : Job) where
  abbrev k : ℕ
  k = l.lent.counter

  abbrev t : Tables
  t = l.lent.tables

  pub tests-refused : (tol : Tolerance) (x : First) (a : JobRefusal) → x ≡ first_tests k t j.count l.area → x ≡ Err a
      → job_step tol j l ≡ refusing l.lent l.area (Err a)
  tests-refused tol x a e h = go (leb j.count max_edits) refl (sound_tables k t) refl (area_fits t l.area) refl
    where
      told : (b : JobRefusal) → first_tests k t j.count l.area ≡ Err b → refusing l.lent l.area (Err b) ≡ refusing l.lent l.area (Err a)
      told b p = ap (λ z. refusing l.lent l.area (Err z)) (same_answer b a (sym p ∙ (sym e ∙ h)))

      go : (few : Bool) → leb j.count max_edits ≡ few → (sane : Bool) → sound_tables k t ≡ sane → (fits : Bool) → area_fits t l.area ≡ fits
          → job_step tol j l ≡ refusing l.lent l.area (Err a)
      go false p sane q fits r = job_too_many tol j l p ∙ told TooManyEdits (many-refused k t j.count l.area p)
      go true p false q fits r = job_unsound tol j l p q ∙ told Unsound (unsound_refused k t j.count l.area p q)
      go true p true q false r = job-short tol j l p q r ∙ told NoRoom (short-refused k t j.count l.area p q r)
      go true p true q true r = clash a (sym (all-passed k t j.count l.area p q r) ∙ (sym e ∙ h))

  pub tests-passed : (x : First) → x ≡ first_tests k t j.count l.area → x ≡ Ok tt
      → (leb j.count max_edits ≡ true) × ((sound_tables k t ≡ true) × (area_fits t l.area ≡ true))
  tests-passed x e h = go (leb j.count max_edits) refl (sound_tables k t) refl (area_fits t l.area) refl
    where
      go : (few : Bool) → leb j.count max_edits ≡ few → (sane : Bool) → sound_tables k t ≡ sane → (fits : Bool) → area_fits t l.area ≡ fits
          → (leb j.count max_edits ≡ true) × ((sound_tables k t ≡ true) × (area_fits t l.area ≡ true))
      go false p sane q fits r = clash TooManyEdits (sym (sym e ∙ h) ∙ many-refused k t j.count l.area p)
      go true p false q fits r = clash Unsound (sym (sym e ∙ h) ∙ unsound_refused k t j.count l.area p q)
      go true p true q false r = clash NoRoom (sym (sym e ∙ h) ∙ short-refused k t j.count l.area p q r)
      go true p true q true r = (p, (q, r))

-- ---- the second area

-- of the area an ending only tells what it is
with_area : Tables → JobEnded → JobEnded
with_area b e = record { lent = e.lent; area = b; answer = e.answer }

area-changed : (l : Lent) (a b : Tables) (r : Run Held) → with_area b (ending l a r) ≡ ending l b r
unfolding with_area
area-changed l a b (stopped place x) = refl
area-changed l a b (done h css) = tests (fits_lists (lists_of l) (net (view l.tables) (view h.tables) css)) refl
  where
    tests : (fits : Bool) → fits_lists (lists_of l) (net (view l.tables) (view h.tables) css) ≡ fits → with_area b (ending l a (done h css)) ≡ ending l b (done h css)
    tests true e = rw e
    tests false e = rw e

pub other-area : (l left : Lent) (a b : Tables) (r : Run Held) (x : JobAnswer) → job_ended left a x ≡ ending l a r → job_ended left b x ≡ ending l b r
unfolding with_area
other-area l left a b r x e = ap (with_area b) e ∙ area-changed l a b r
