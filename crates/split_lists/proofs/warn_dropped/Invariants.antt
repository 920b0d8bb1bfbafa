-- `split_lists::warn_dropped` meets its contract. The invariant: the warnings of the marked rows before row i stand from row `from` on, and `second` is the
-- next one's second half. Assumes nothing.
use Rattle.split_lists.proofs.Dropped.{Numbers, Warned}
use Rattle.split_lists.proofs.warn_dropped.Given as goal

abbrev pub invariant-loop-i : goal.invariant-loop-i
invariant-loop-i l = Numbers l.cut l.next l.seen l.lanes l.i l.second × Warned l.cut l.next l.seen l.lanes l.initial.warnings l.from l.i l.warnings l.at
