-- `faults::id_faults` meets its contract. What the calls found, in the order of the clauses. Assumes nothing.
use Rattle.faults.proofs.Laws.{three}
use Rattle.faults.proofs.id_faults.Goals as goal

pub returns : goal.returns
returns c = three c.ids_fault-ids.ensures c.rows_fault-names.ensures c.link_faults-links.ensures c.or.ensures c.or-2.ensures
