-- `split_room::count_named` meets its contract. The invariant: the count is that of the first r cut lanes. Assumes nothing.
use mathlib.Core.Path.{◌≡◌}
use Prim.Native.Nat.{◌≤◌}
use lib.ListN.{length, take}
use Rattle.lists.specs.Select.{keep, has}
use Rattle.split_room.proofs.count_named.Given as goal

abbrev pub invariant-loop-r : goal.invariant-loop-r
invariant-loop-r l = (l.r ≤ length l.cut) × ((l.count ≤ l.r) × (l.count ≡ length (keep (λ i. has i l.ids) (take l.r l.cut))))
