-- `nearest::nearest_point` meets its contract: the answer is the best so far against what is left. Assumes nothing.
use Rattle.std.specs.Prelude.{Some}
use Prim.Native.Nat.{◌+◌, ◌≤◌}
use mathlib.Core.Path.{◌≡◌}
use lib.ListN.{drop}
use Rattle.geometry.specs.Point.{distance2, xy}
use Rattle.polyline.specs.Polyline.{points, nearest_point, nearest_from}
use Rattle.nearest.proofs.nearest_point.Given as goal

abbrev pub invariant-loop-i : goal.invariant-loop-i
invariant-loop-i l = (l.i + 1 ≤ l.n) × ((nearest_point (points l.line) l.to ≡ Some (nearest_from l.i l.at l.to l.best l.p (drop (l.i + 1) (points l.line)))) × (l.best.distance ≡ distance2 (xy l.best.point) l.to))
