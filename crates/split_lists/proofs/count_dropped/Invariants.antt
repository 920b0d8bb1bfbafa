-- `split_lists::count_dropped` meets its contract. The invariant: the warnings of the marked rows before row i are counted, and `second` is the next one's
-- second half. Assumes nothing.
use Rattle.split_lists.proofs.Dropped.{Numbers, Counted}
use Rattle.split_lists.proofs.count_dropped.Given as goal

abbrev pub invariant-loop-i : goal.invariant-loop-i
invariant-loop-i l = Numbers l.cut l.next l.seen l.lanes l.i l.second × Counted l.cut l.next l.seen l.lanes l.i l.count
