-- `joins::copy_points` meets its contract: what is left, written behind what was written, makes the whole. Assumes nothing.
use Prim.Native.Nat.{◌+◌, ◌-◌}
use lib.ListN.{drop}
use Rattle.polyline.specs.Polyline.{points}
use Rattle.polyline.proofs.Lines.{Left}
use Rattle.joins.proofs.copy_points.Given as goal

abbrev pub invariant-loop-i : goal.invariant-loop-i
invariant-loop-i l = Left l.initial.out l.out l.k (l.k + (l.i - l.from)) (drop l.from (points l.line)) (drop l.i (points l.line))
