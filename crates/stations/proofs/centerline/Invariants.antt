-- `stations::centerline` meets its contract: what is left, written behind what was written, makes the whole. Assumes nothing.
use Prim.Native.Nat.{◌-◌, ◌≤◌}
use Rattle.polyline.specs.Polyline.{points, centerline}
use Rattle.polyline.proofs.Lines.{Left, halved}
use Rattle.stations.proofs.centerline.Given as goal

abbrev pub invariant-loop-i : goal.invariant-loop-i
invariant-loop-i l = (l.i ≤ l.n) × Left l.initial.out l.out 0 l.i (centerline (points l.left) (points l.right)) (halved (points l.left) (points l.right) (l.n - 1) l.i (l.n - l.i))
