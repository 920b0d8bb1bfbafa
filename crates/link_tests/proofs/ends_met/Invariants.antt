-- `link_tests::ends_met` meets its contract. The invariant: the cursors are the counts where those from j on are. Assumes nothing.
use mathlib.Core.Path.{◌≡◌}
use Prim.Native.Nat.{◌≤◌}
use lib.ListN.{length, drop}
use Rattle.lists.specs.Select.{same_numbers}
use Rattle.tables.specs.View.{word, rows}
use Rattle.link_tests.proofs.ends_met.Given as goal

abbrev pub invariant-loop-j : goal.invariant-loop-j
invariant-loop-j l = (l.j ≤ length l.met) × (same_numbers l.met (rows 52 (word 18) l.t) ≡ same_numbers (drop l.j l.met) (drop l.j (rows 52 (word 18) l.t)))
