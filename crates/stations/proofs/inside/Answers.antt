-- `stations::inside` meets its contract. Assumes nothing.
use Rattle.geometry.specs.Float.{epsilon}
use Rattle.polyline.specs.Polyline.{inside}
use Rattle.stations.proofs.inside.Goals as goal

pub returns-then-from-at : goal.returns-then-from-at
unfolding inside epsilon
returns-then-from-at c = rw c.if-from-at.true

pub returns-else-from-at : goal.returns-else-from-at
unfolding inside epsilon
returns-else-from-at c = rw c.if-from-at.false
