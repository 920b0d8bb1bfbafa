-- `stations::between_points` meets its contract: what was counted and what is left make the whole. Assumes nothing.
use Prim.Native.Nat.{◌+◌, ◌≤◌, ◌<◌}
use mathlib.Core.Path.{◌≡◌}
use lib.ListN.{length, drop}
use Rattle.polyline.specs.Polyline.{points, between, inner}
use Rattle.stations.proofs.between_points.Given as goal

abbrev pub invariant-loop-i : goal.invariant-loop-i
invariant-loop-i l = (l.i ≤ l.n) × ((l.found < l.i) × (length (between l.from l.to (points l.line)) ≡ l.found + length (inner l.from l.to l.at l.p (drop l.i (points l.line)))))
