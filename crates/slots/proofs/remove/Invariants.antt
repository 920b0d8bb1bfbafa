-- `slots::remove` meets its contract. The invariant: the first i ids without the one to remove are written over the front. Assumes nothing.
use mathlib.Core.Path.{◌≡◌}
use Prim.Native.Nat.{◌≤◌}
use lib.ListN.{length, take}
use Rattle.lists.specs.Rows.{over}
use Rattle.lists.specs.Select.{without}
use Rattle.slots.proofs.remove.Given as goal

abbrev pub invariant-loop-i : goal.invariant-loop-i
invariant-loop-i l = (l.i ≤ l.n) × ((l.left ≤ l.i) × ((length l.slots ≡ length l.initial.slots) × ((l.left ≡ length (without l.id (take l.i l.initial.slots))) × (l.slots ≡ over l.initial.slots 0 (without l.id (take l.i l.initial.slots))))))
