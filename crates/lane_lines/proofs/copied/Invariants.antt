-- `lane_lines::copied` meets its contract: what is left, written behind what was written, makes the whole. Assumes nothing.
use Prim.Native.Nat.{◌≤◌}
use lib.ListN.{drop}
use Rattle.polyline.specs.Polyline.{points}
use Rattle.polyline.proofs.Lines.{Left}
use Rattle.lane_lines.proofs.copied.Given as goal

abbrev pub invariant-loop-i : goal.invariant-loop-i
invariant-loop-i l = (l.i ≤ l.n) × Left l.initial.out l.out 0 l.i (points l.line) (drop l.i (points l.line))
