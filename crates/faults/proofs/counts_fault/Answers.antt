-- `faults::counts_fault` meets its contract. What the calls found, in the order of the tables. Assumes nothing.
use Rattle.faults.specs.Faults.{counts_fault}
use Rattle.faults.proofs.Laws.{seven}
use Rattle.faults.proofs.counts_fault.Goals as goal

pub returns : goal.returns
unfolding counts_fault
returns c = seven c.count_fault.ensures c.count_fault-2.ensures c.count_fault-3.ensures c.count_fault-4.ensures c.count_fault-5.ensures c.count_fault-6.ensures c.count_fault-7.ensures c.or.ensures c.or-2.ensures c.or-3.ensures c.or-4.ensures c.or-5.ensures c.or-6.ensures
