-- `stations::resample_points` meets its contract. Assumes nothing.
use mathlib.Core.Path.{sym, ap, ◌∙◌}
use native.Mathlib.Omega.{arith}
use lib.ListN.{length}
use Rattle.polyline.specs.Polyline.{points}
use Rattle.polyline.proofs.Lines.{length_resample_count, resample_empty}
use Rattle.stations.proofs.resample_points.Goals as goal

pub returns-then-count-eq0 : goal.returns-then-count-eq0
returns-then-count-eq0 c = sym (ap length (resample_empty (points c.args.line.now) c.args.n (omega arith)))

pub returns : goal.returns
returns c = c.max.ensures ∙ sym (length_resample_count (points c.args.line.now) c.args.n (omega arith))
