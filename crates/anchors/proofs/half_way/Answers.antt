-- `anchors::half_way` meets its contract: by whether both points are there. Assumes nothing.
use Rattle.anchors.proofs.Anchor.{half-some}
use Rattle.anchors.proofs.half_way.Goals as goal

pub returns : goal.returns
returns c = half-some c.args.p c.args.q c.in_ok-a.a c.in_ok-b.b c.lerp.result c.in_ok-a.was c.in_ok-b.was c.lerp.ensures
