-- `nearest::candidate` meets its contract. Assumes nothing.
use Rattle.polyline.specs.Polyline.{candidate}
use Rattle.nearest.proofs.candidate.Goals as goal

pub returns : goal.returns
unfolding candidate
returns c = rw (c.distance.ensures, c.xy-3.ensures, c.lerp-on.ensures, c.project_on_segment-t.ensures, c.xy-2.ensures, c.xy.ensures, c.requires)
