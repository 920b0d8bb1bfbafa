-- `lists::ascends` meets its contract. The invariant: the list ascends where what is left from i on ascends from the id before i. Assumes nothing.
use mathlib.Core.Path.{◌≡◌}
use Prim.Native.Nat.{◌-◌, ◌≤◌}
use lib.ListN.{get_or, drop}
use Rattle.lists.specs.Select.{above, ascending}
use Rattle.lists.proofs.ascends.Given as goal

abbrev pub invariant-loop-i : goal.invariant-loop-i
invariant-loop-i l = (1 ≤ l.i) × (ascending l.ids ≡ above (get_or l.ids (l.i - 1) 0) (drop l.i l.ids))
