-- `split_lists::list_marked` meets its contract. The invariant: the ids of the marked rows before row i are listed. Assumes nothing.
use Rattle.split_lists.proofs.Entities.{Listing}
use Rattle.split_lists.proofs.list_marked.Given as goal

abbrev pub invariant-loop-i : goal.invariant-loop-i
invariant-loop-i l = Listing l.s l.marks l.t l.number l.at l.initial.out l.i l.place l.out
