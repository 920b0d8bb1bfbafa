-- `stations::resample_count` meets its contract: what is left, written behind what was written, makes the whole. Assumes nothing.
use Prim.Native.Nat.{◌-◌, ◌≤◌}
use Rattle.polyline.specs.Polyline.{points, resample_from, resample_count}
use Rattle.polyline.proofs.Lines.{Left}
use Rattle.stations.proofs.resample_count.Given as goal

abbrev pub invariant-loop-i : goal.invariant-loop-i
invariant-loop-i l = (l.i ≤ l.wanted) × Left l.initial.out l.out 0 l.i (resample_count (points l.line) l.n) (resample_from (points l.line) (l.wanted - 1) l.i (l.wanted - l.i))
