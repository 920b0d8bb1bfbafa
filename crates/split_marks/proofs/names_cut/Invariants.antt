-- `split_marks::names_cut` meets its contract. The invariant: the list names a cut lane if those from here on do. Assumes nothing.
use mathlib.Core.Path.{◌≡◌}
use lib.ListN.{drop}
use Rattle.lists.specs.Select.{any, has}
use Rattle.split_marks.proofs.names_cut.Given as goal

abbrev pub invariant-loop-id : goal.invariant-loop-id
invariant-loop-id l = any (λ k. has k l.cut) l.ids ≡ any (λ k. has k l.cut) (drop l.id-index l.ids)
