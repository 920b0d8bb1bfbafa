-- A job that has passed its first tests. Nothing that a host calls rests on this page: `ending` (crate `job_step`) is what a job leaves.
use Rattle.std.specs.Prelude.{ℕ, cond, List, ltb, replicate, take}
use Rattle.lists.specs.Rows.{over}
use Rattle.job_marks.specs.Marks.{all_marks}

abbrev pub unmarked : List ℕ
unmarked = replicate all_marks 0

-- how many words of a list that long are those of warnings that may be kept
abbrev pub kept_words : ℕ → ℕ
kept_words n = cond (ltb n 5120) n 5120

-- the rows in which a job's own warnings are kept begin as those of the lent list, so that words which no warning writes stay as they came
abbrev pub kept_from : List ℕ → List ℕ
kept_from w = over (replicate 25600 0) 0 (take 5120 w)
