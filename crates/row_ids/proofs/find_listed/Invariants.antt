-- `row_ids::find_listed` meets its contract. The invariant: where the search still looks. The measure is how many places are left. Assumes nothing.
use Rattle.row_ids.proofs.Laws.{Left}
use Rattle.row_ids.proofs.find_listed.Given as goal

abbrev pub invariant-loop-left : goal.invariant-loop-left
invariant-loop-left l = Left l.ids l.n l.id l.low l.left

abbrev pub decreases-loop-left : goal.decreases-loop-left
decreases-loop-left l = l.left
