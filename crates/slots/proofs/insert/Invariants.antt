-- `slots::insert` meets its contract. The invariant: the ids from i on, each larger than the new one, stand one slot later.
-- The measure is i. Assumes nothing.
use mathlib.Core.Path.{◌≡◌}
use mathlib.Core.Bool.{true}
use Prim.Native.Nat.{◌+◌, ◌≤◌}
use lib.Dec.{ltb}
use lib.ListN.{length, take, drop}
use Rattle.lists.specs.Rows.{over}
use Rattle.lists.specs.Every.{all}
use Rattle.slots.proofs.insert.Given as goal

abbrev pub invariant-loop-i : goal.invariant-loop-i
invariant-loop-i l = (l.i ≤ l.n) × ((length l.slots ≡ length l.initial.slots) × ((l.slots ≡ over l.initial.slots (l.i + 1) (drop l.i (take l.n l.initial.slots))) × (all (ltb l.id) (drop l.i (take l.n l.initial.slots)) ≡ true)))
