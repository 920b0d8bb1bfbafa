-- `polyline::held` meets its contract. Assumes nothing.
use Rattle.polyline.specs.Polyline.{held}
use Rattle.polyline.proofs.held.Goals as goal

pub returns-then-t : goal.returns-then-t
unfolding held
returns-then-t c = rw (c.clamp.ensures, c.if-t.true)

pub returns : goal.returns
unfolding held
returns c = rw c.if-t.false
