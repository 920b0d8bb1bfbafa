-- `uses::users` meets its contract. The invariant: the count is that of the lanes before i. Assumes nothing.
use mathlib.Core.Path.{◌≡◌}
use Prim.Native.Nat.{◌≤◌}
use lib.ListN.{length, take}
use Rattle.lists.specs.Select.{keep}
use Rattle.tables.specs.View.{rows}
use Rattle.lookup.specs.Lookup.{row_uses}
use Rattle.uses.proofs.users.Given as goal

abbrev pub invariant-loop-i : goal.invariant-loop-i
invariant-loop-i l = (l.i ≤ l.n) × ((l.count ≤ l.i) × (l.count ≡ length (keep (row_uses l.boundary) (take l.i (rows 52 (λ w. w) l.lanes)))))
