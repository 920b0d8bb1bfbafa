-- `lists::contains` meets its contract. The invariant: the id stands in the list where it stands in what is left. Assumes nothing.
use mathlib.Core.Path.{◌≡◌}
use lib.ListN.{drop}
use Rattle.lists.specs.Select.{has}
use Rattle.lists.proofs.contains.Given as goal

abbrev pub invariant-loop-x : goal.invariant-loop-x
invariant-loop-x l = has l.id l.ids ≡ has l.id (drop l.x-index l.ids)
