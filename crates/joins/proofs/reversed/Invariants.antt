-- `joins::reversed` meets its contract: what is left at i is the first n - i points, backwards. Assumes nothing.
use Prim.Native.Nat.{◌≤◌, ◌-◌}
use mathlib.Core.List.{reverse}
use lib.ListN.{length, take}
use Rattle.polyline.specs.Polyline.{points}
use Rattle.polyline.proofs.Lines.{Left}
use Rattle.joins.proofs.reversed.Given as goal

abbrev pub invariant-loop-i : goal.invariant-loop-i
invariant-loop-i l = (l.i ≤ l.n) × Left l.initial.out l.out 0 l.i (reverse (points l.line)) (reverse (take (length (points l.line) - l.i) (points l.line)))
