-- `geometry::Point3::distance_2d` meets its contract. Assumes nothing.
use Rattle.geometry.specs.Point.{distance_2d}
use Rattle.geometry.proofs.Point3.distance_2d.Goals as goal

pub returns : goal.returns
unfolding distance_2d
returns c = rw (c.distance.ensures, c.xy-2.ensures, c.xy.ensures)
