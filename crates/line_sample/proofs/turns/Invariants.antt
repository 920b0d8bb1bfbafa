-- `line_sample::turns` ends: the measure is how many calls are left. Assumes nothing.
use mathlib.Core.Path.{◌≡◌}
use Prim.Native.Nat.{◌≤◌}
use lib.ListN.{length}
use Rattle.line_sample.proofs.turns.Given as goal

abbrev pub invariant-loop-i : goal.invariant-loop-i
invariant-loop-i l = (l.i ≤ l.wanted) × ((length l.out ≡ length l.initial.out) × (length l.counts ≡ length l.initial.counts))
