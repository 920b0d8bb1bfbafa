-- A job as a host calls it. Assumes nothing.
use Rattle.jobs.specs.Answers.{JobAnswer}
use mathlib.Core.Path.{◌≡◌, ap, ◌∙◌}
use Rattle.entities.specs.Types.{preset}
use Rattle.entities.specs.declared.Tolerance.{Tolerance}
use Rattle.tables.specs.View.{Tables}
use Rattle.step.specs.Step.{Lent}
use Rattle.jobs.specs.declared.Job.{Job}
use Rattle.job_words.specs.JobWords.{told_job}
use Rattle.job_words.specs.declared.ToldJob.{ToldJob}
use Rattle.job_step.specs.Job.{JobEnded, job_lent, job_step, job_ended}
use Rattle.voldrekka.specs.Jobs.{JobCalled, job_called, job_calling}

-- what an end is told as
abbrev telling : JobEnded → JobCalled
telling e = job_called e.lent e.area (told_job e.lent.counter e.answer)

pub all-jobs : (j d : Job) (tol : Tolerance) (l after : Lent) (area left : Tables) (a : JobAnswer) (t : ToldJob) → d ≡ j → tol ≡ preset
    → job_ended after left a ≡ job_step tol d (job_lent l area) → t ≡ told_job after.counter a → job_called after left t ≡ job_calling j l area
unfolding job_calling
all-jobs j d tol l after area left a t p q s e = rw (← p, ← q) (ap (job_called after left) e ∙ ap telling s)
