-- `faults::form_faults` meets its contract. What the calls found, in the order of the clauses. Assumes nothing.
use Rattle.faults.specs.Faults.{row_faults}
use Rattle.faults.proofs.Laws.{three}
use Rattle.faults.proofs.form_faults.Goals as goal

pub returns : goal.returns
unfolding row_faults
returns c = three c.rows_fault-marks.ensures c.rows_fault-kinds.ensures c.id_faults-ids.ensures c.or.ensures c.or-2.ensures
