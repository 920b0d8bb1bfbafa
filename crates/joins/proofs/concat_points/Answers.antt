-- `joins::concat_points` meets its contract: the points skipped are no more than there are. Assumes nothing.
use native.Mathlib.Omega.{arith}
use Rattle.polyline.specs.Polyline.{points}
use Rattle.polyline.proofs.Points.{length-points}
use Rattle.polyline.proofs.Lines.{skipped-few, length-concat}
use Rattle.joins.proofs.concat_points.Goals as goal

pub overflow_sub-result : goal.overflow_sub-result
overflow_sub-result c = omega (arith, skipped-few c.args.join (points c.args.one.now) (points c.args.other.now))

pub overflow_add-result : goal.overflow_add-result
overflow_add-result c = omega (arith, length-points c.args.one.now, length-points c.args.other.now)

pub returns : goal.returns
returns c = omega (arith, length-concat c.args.join (points c.args.one.now) (points c.args.other.now))
