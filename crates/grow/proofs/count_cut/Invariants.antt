-- `grow::count_cut` meets its contract. The invariant: the count is that of the cut ids before i. Assumes nothing.
use mathlib.Core.Path.{◌≡◌}
use Prim.Native.Nat.{◌≤◌}
use lib.ListN.{length, take}
use Rattle.lists.specs.Select.{keep, has}
use Rattle.grow.proofs.count_cut.Given as goal

abbrev pub invariant-loop-i : goal.invariant-loop-i
invariant-loop-i l = (l.i ≤ l.n) × ((l.count ≤ l.i) × (l.count ≡ length (keep (λ k. has k l.cut) (take l.i l.ids))))
