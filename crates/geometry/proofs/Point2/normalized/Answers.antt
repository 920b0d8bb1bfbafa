-- `geometry::Point2::normalized` meets its contract. Assumes nothing.
use Rattle.geometry.specs.Float.{epsilon}
use Rattle.geometry.specs.Point.{normalized}
use Rattle.geometry.proofs.Point2.normalized.Goals as goal

pub returns-then-n : goal.returns-then-n
unfolding normalized epsilon
returns-then-n c = rw (← c.norm-n.ensures, c.if-n.true)

pub returns : goal.returns
unfolding normalized epsilon
returns c = rw (← c.norm-n.ensures, c.if-n.false)
