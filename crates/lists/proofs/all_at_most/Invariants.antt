-- `lists::all_at_most` meets its contract. The invariant: the list passes where what is left from i on does. Assumes nothing.
use mathlib.Core.Path.{◌≡◌}
use lib.Dec.{leb}
use lib.ListN.{drop}
use Rattle.lists.specs.Every.{all}
use Rattle.lists.proofs.all_at_most.Given as goal

abbrev pub invariant-loop-id : goal.invariant-loop-id
invariant-loop-id l = all (λ x. leb x l.most) l.ids ≡ all (λ x. leb x l.most) (drop l.id-index l.ids)
