-- `link_tests::all_met` meets its contract. The invariant: the lanes before i are met, and the cursors count their links. Assumes nothing.
use mathlib.Core.Path.{◌≡◌}
use mathlib.Core.Bool.{true}
use Prim.Native.Nat.{ℕ, ◌≤◌, ◌<◌}
use lib.ListN.{length}
use Rattle.link_tests.specs.Met.{cursors, lane_met}
use Rattle.link_tests.proofs.all_met.Given as goal

abbrev pub invariant-loop-i : goal.invariant-loop-i
invariant-loop-i l = (l.i ≤ l.n) × ((length l.met ≡ length l.initial.met) × ((l.met ≡ cursors l.t l.i 0) × ((j : ℕ) → j < l.i → lane_met l.t j ≡ true)))
