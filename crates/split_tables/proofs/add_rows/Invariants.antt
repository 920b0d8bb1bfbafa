-- `split_tables::add_rows` meets its contract: the invariant says that the new rows of the marked boundaries before row x are there. Assumes nothing.
use Rattle.split_tables.proofs.Adding.{Added}
use Rattle.split_tables.proofs.add_rows.Given as goal

abbrev pub invariant-loop-x : goal.invariant-loop-x
invariant-loop-x l = Added l.pieces l.lines l.marks l.initial.t l.t l.j l.x
