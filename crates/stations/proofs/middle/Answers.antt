-- `stations::middle` meets its contract. Assumes nothing.
use mathlib.Core.Path.{◌∙◌}
use Rattle.polyline.specs.Polyline.{middle}
use Rattle.stations.proofs.middle.Goals as goal

pub returns-in_err-p : goal.returns-in_err-p
unfolding middle
returns-in_err-p c = c.from_residual.ensures ∙ rw c.in_err-p.was

pub returns-in_err-q : goal.returns-in_err-q
unfolding middle
returns-in_err-q c = c.from_residual-in_err-q.ensures ∙ rw (c.in_ok-p.was, c.in_err-q.was)

pub returns : goal.returns
unfolding middle
returns c = rw (c.in_ok-p.was, c.in_ok-q.was, c.lerp.ensures)
