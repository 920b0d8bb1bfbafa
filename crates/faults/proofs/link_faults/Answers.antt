-- `faults::link_faults` meets its contract. What the calls found, in the order of the clauses. Assumes nothing.
use Rattle.faults.proofs.Laws.{three}
use Rattle.faults.proofs.link_faults.Goals as goal

pub returns : goal.returns
returns c = three c.rows_fault-links.ensures c.rows_fault-lines.ensures c.rows_fault-repeats.ensures c.or.ensures c.or-2.ensures
