use mathlib.Core.Path.{◌≡◌, refl, sym, ap, ◌∙◌}
use native.Mathlib.Omega.{arith}
use Prim.Native.Nat.{◌-◌, ◌≤◌}
use lib.ListN.{length, take, length-set}
use lib.Seq.{take_all}
use Rattle.job_words.specs.JobWords.{edits_in, job_of}
use Rattle.job_words.proofs.Reading.{edits-stored}
use mathlib.Core.List.{List}
use Prim.Native.Nat.{◌+◌, ◌/◌, ◌<◌}
use native.Mathlib.Numerals.{add-one}
use Rattle.rules.specs.Ops.{Command}
use Rattle.jobs.specs.declared.Edit.{Edit}
use Rattle.job_words.proofs.job_of.Given as goal

abbrev pub invariant-loop-i : goal.invariant-loop-i
invariant-loop-i l = (l.i ≤ 64) × ((length l.edits ≡ 64) × (take l.i l.edits ≡ edits_in l.i l.rows))
