-- `polyline::point_at_fraction` meets its contract. Assumes nothing.
use Rattle.polyline.specs.Polyline.{point_at_fraction}
use Rattle.polyline.proofs.point_at_fraction.Goals as goal

pub returns : goal.returns
unfolding point_at_fraction
returns c = rw (c.point_at.ensures, c.length.ensures, c.clamp.ensures)
