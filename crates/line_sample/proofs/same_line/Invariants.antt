-- `line_sample::same_line` stays within the line and ends. Assumes nothing.
use Prim.Native.Nat.{◌≤◌, ◌<◌, ◌^◌}
use Rattle.line_sample.proofs.same_line.Given as goal

abbrev pub invariant-loop-i : goal.invariant-loop-i
invariant-loop-i l = (l.i ≤ l.floats) × (l.floats < 2 ^ 24)
