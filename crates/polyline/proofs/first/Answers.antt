-- `polyline::first` meets its contract. Assumes nothing.
use Rattle.std.specs.Prelude.{Some}
use native.Mathlib.Omega.{arith}
use mathlib.Core.Path.{◌∙◌, ap}
use Rattle.polyline.specs.Polyline.{points}
use Rattle.polyline.proofs.Walk.{first-none, first_some}
use Rattle.polyline.proofs.first.Goals as goal

pub returns-then-count-eq0 : goal.returns-then-count-eq0
returns-then-count-eq0 c = first-none (points c.args.line.now) (omega arith)

pub returns : goal.returns
returns c = ap Some c.point.ensures ∙ first_some (points c.args.line.now) (omega arith)
