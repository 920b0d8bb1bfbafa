-- What a host gets of a job: all that it lent, the second area, and the answer's numbers by value.
use Rattle.entities.specs.Types.{preset}
use Rattle.tables.specs.View.{Tables}
use Rattle.step.specs.Step.{Lent}
use Rattle.jobs.specs.declared.Job.{Job}
use Rattle.job_step.specs.Job.{job_lent, job_step}
use Rattle.job_words.specs.JobWords.{told_job}
use Rattle.job_words.specs.declared.ToldJob.{ToldJob}

pub record JobCalled : Type 0 where
  pub lent : Lent
  pub area : Tables
  pub told : ToldJob

abbrev pub job_called : Lent → Tables → ToldJob → JobCalled
job_called l area t = record { lent = l; area = area; told = t }

-- One job with document 01's tolerances.
unfoldable pub job_calling : Job → Lent → Tables → JobCalled
job_calling j l area = let e = job_step preset j (job_lent l area) in job_called e.lent e.area (told_job e.lent.counter e.answer)
