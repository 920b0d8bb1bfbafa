-- `anchors::mid` meets its contract: by whether the line has a point. Assumes nothing.
use mathlib.Core.Path.{◌∙◌}
use Rattle.polyline.specs.Polyline.{points}
use Rattle.anchors.proofs.Anchor.{mid_none, mid-some}
use Rattle.anchors.proofs.mid.Goals as goal

pub returns-in_err-p : goal.returns-in_err-p
returns-in_err-p c = c.from_residual.ensures ∙ mid_none (points c.args.line.now) c.point_at_fraction.result c.point_at_fraction.ensures c.in_err-p.was

pub returns : goal.returns
returns c = mid-some (points c.args.line.now) c.point_at_fraction.result c.point_at_fraction.ensures c.in_ok-p.p c.xy.result c.in_ok-p.was c.xy.ensures
