-- The ends of a command, whichever edit makes it. Assumes nothing.
use mathlib.Core.Path.{◌≡◌}
use Rattle.rules.specs.Names.{Tolerance}
use Rattle.rules.specs.Ops as O
use Rattle.report.specs.Report.{counter_behind, Answer}
use Rattle.step.specs.Step.{Lent, Ended, ended, step}
use Rattle.step.proofs.Counter.{with_counter, counter-told}

module _ (tol : Tolerance) (l : Lent) where
  -- what an edit has made, of the command that was matched
  pub made : (c d : O.Command) (after : Lent) (a : Answer) → c ≡ d → ended after a ≡ step tol d l → ended (with_counter (counter_behind l.counter a) after) a ≡ step tol c l
  made c d after a f e = rw f (counter-told tol d l after a e)

  -- the same of an edit that tells the counter itself
  pub made_as : (c d : O.Command) (x : Ended) → c ≡ d → x ≡ step tol d l → x ≡ step tol c l
  made_as c d x f e = rw f e
