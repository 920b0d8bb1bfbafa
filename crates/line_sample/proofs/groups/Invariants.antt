-- `line_sample::groups` ends: the measure is how many groups are left. Assumes nothing.
use mathlib.Core.Path.{◌≡◌}
use Prim.Native.Nat.{◌≤◌}
use lib.ListN.{length}
use Rattle.line_sample.proofs.groups.Given as goal

abbrev pub invariant-loop-i : goal.invariant-loop-i
invariant-loop-i l = (l.i ≤ l.n) × ((length l.bytes ≡ length l.initial.bytes) × (length l.counts ≡ length l.initial.counts))
