-- `lists::count_of` meets its contract. The invariant: the count is that of the ids so far. Assumes nothing.
use Rattle.std.proofs.Common.{◌≡◌, ◌≤◌, length, take}
use lib.Dec.{eqb}
use Rattle.lists.specs.Select.{keep}
use Rattle.lists.proofs.count_of.Given as goal

abbrev pub invariant-loop-x : goal.invariant-loop-x
invariant-loop-x l = (l.count ≤ l.x-index) × (l.count ≡ length (keep (eqb l.id) (take l.x-index l.ids)))
