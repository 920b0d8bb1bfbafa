-- `lists::keys_ascend` meets its contract. The invariant is that of `ascends`, of the list of keys. Assumes nothing.
use mathlib.Core.Path.{◌≡◌}
use Prim.Native.Nat.{◌-◌, ◌≤◌}
use lib.ListN.{get_or, drop}
use Rattle.lists.specs.Select.{above, ascending}
use Rattle.lists.specs.Rows.{keys}
use Rattle.lists.proofs.keys_ascend.Given as goal

abbrev pub invariant-loop-i : goal.invariant-loop-i
invariant-loop-i l = (1 ≤ l.i) × (ascending (keys l.s l.n l.rows) ≡ above (get_or (keys l.s l.n l.rows) (l.i - 1) 0) (drop l.i (keys l.s l.n l.rows)))
