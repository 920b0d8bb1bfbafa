-- `nearest::nearer` meets its contract. Assumes nothing.
use Rattle.geometry.specs.Float.{epsilon}
use Rattle.polyline.specs.Polyline.{nearer}
use Rattle.nearest.proofs.nearer.Goals as goal

pub returns-then-next-best : goal.returns-then-next-best
unfolding nearer epsilon
returns-then-next-best c = rw c.if-next-best.true

pub returns : goal.returns
unfolding nearer epsilon
returns c = rw c.if-next-best.false
