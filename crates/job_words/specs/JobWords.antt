-- A job and its answer as a host's numbers. Every list of words is a job: rows of five words, a command each; a row that is cut short has zeros behind it.
use Rattle.std.specs.Prelude.{ℕ, zero, suc, ◌+◌, ◌/◌, List, [], ◌∷◌, length, drop}
use Rattle.words.specs.Words.{command_of, kind_word, id_word}
use Rattle.jobs.specs.declared.Job.{Job}
use Rattle.jobs.specs.declared.Edit.{Edit}
use Rattle.jobs.specs.Answers.{job_number, job_place, job_own_number, job_entity, job_counts, JobAnswer}
use Rattle.job_words.specs.declared.ToldJob.{ToldJob}

-- n commands, one behind the other; past the end all words are 0
unfoldable pub edits_in : ℕ → List ℕ → List Edit
edits_in zero w = []
edits_in (suc n) w = record { command = command_of w } ∷ edits_in n (drop 5 w)

-- as many edits as there are rows, the last of which may be cut short
unfoldable pub job_of : List ℕ → Job
job_of w = record { count = (length w + 4) / 5; edits = edits_in 64 w }

-- the papers' number, the place of a refused edit and its own number, the entity that it names, the four counts, and the counter behind the call
abbrev pub told_job : ℕ → JobAnswer → ToldJob
told_job counter a =
    record {
      number = job_number a;
      place = job_place a;
      own = job_own_number a;
      kind = kind_word (job_entity a);
      id = id_word (job_entity a);
      created = (job_counts a).created;
      modified = (job_counts a).modified;
      deleted = (job_counts a).deleted;
      warnings = (job_counts a).warnings;
      counter = counter;
    }
