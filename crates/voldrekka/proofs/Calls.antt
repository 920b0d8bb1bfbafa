-- A call and its answer's numbers. Assumes nothing.
use Rattle.report.specs.Report.{Answer}
use mathlib.Core.Path.{◌≡◌, ap, ◌∙◌}
use Rattle.entities.specs.Types.{preset}
use Rattle.rules.specs.Names.{Tolerance}
use Rattle.rules.specs.Ops as O
use Rattle.words.specs.Words.{told}
use Rattle.words.specs.declared.Told.{Told}
use Rattle.step.specs.Step.{Lent, Ended, ended, step}
use Rattle.voldrekka.specs.Edits.{Called, called, calling}

-- what an end is told as
abbrev telling : Lent → Ended → Called
telling l e = called e.lent (told l.counter e.answer)

pub all-called : (c d : O.Command) (tol : Tolerance) (l after : Lent) (a : Answer) (t : Told) → d ≡ c → tol ≡ preset → ended after a ≡ step tol d l → t ≡ told l.counter a → called after t ≡ calling c l
unfolding calling
all-called c d tol l after a t p q s e = rw (← p, ← q) (ap (called after) e ∙ ap (telling l) s)
