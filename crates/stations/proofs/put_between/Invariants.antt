-- `stations::put_between` meets its contract: what is left, written behind what was written, makes the whole. Assumes nothing.
use lib.ListN.{drop}
use Rattle.polyline.specs.Polyline.{points, between, inner}
use Rattle.polyline.proofs.Lines.{Left}
use Prim.Native.Nat.{◌+◌, ◌≤◌}
use Rattle.stations.proofs.put_between.Given as goal

abbrev pub invariant-loop-i : goal.invariant-loop-i
invariant-loop-i l = (l.i ≤ l.n) × Left l.initial.out l.out l.k (l.k + l.found) (between l.from l.to (points l.line)) (inner l.from l.to l.at l.p (drop l.i (points l.line)))
