-- `polyline::last` meets its contract. Assumes nothing.
use native.Mathlib.Omega.{arith}
use Rattle.polyline.specs.Polyline.{points}
use Rattle.polyline.proofs.Walk.{last_none, last_some}
use Rattle.polyline.proofs.last.Goals as goal

pub returns-then-n-eq0 : goal.returns-then-n-eq0
returns-then-n-eq0 c = last_none (points c.args.line.now) (omega arith)

pub returns : goal.returns
returns c = rw (c.point.ensures, c.count-n.ensures) (last_some (points c.args.line.now) (omega arith))
