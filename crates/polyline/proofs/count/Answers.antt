-- `polyline::count` meets its contract: a point is three floats. Assumes nothing.
use mathlib.Core.Path.{sym}
use Rattle.polyline.proofs.Points.{length-points}
use Rattle.polyline.proofs.count.Goals as goal

pub returns : goal.returns
returns c = sym (length-points c.args.line.now)
