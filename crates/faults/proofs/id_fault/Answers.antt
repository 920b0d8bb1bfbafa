-- `faults::id_fault` meets its contract. What the search found. Assumes nothing.
use native.Mathlib.Omega.{arith}
use lib.ListN.{get_or, drop}
use Rattle.lists.specs.Rows.{keys}
use Rattle.tables.specs.View.{word}
use Rattle.row_tests.proofs.Tables.{table-some}
use Rattle.row_faults.specs.declared.Clause.TheVariants.{Ids}
use Rattle.row_faults.specs.First.{rises}
use Rattle.row_faults.proofs.First.{ids-length}
use Rattle.faults.proofs.Laws.{told_in}
use Rattle.faults.proofs.id_fault.Goals as goal

pub bounds-t-0 : goal.bounds-t-0
bounds-t-0 c = omega (arith, table-some c.args.limit c.args.row c.args.t.now c.requires.1)

pub returns : goal.returns
returns c = told_in Ids c.args.table c.first_fallen-first.result (get_or c.args.t.now 0 0) (rises (keys c.args.row (word 0 c.args.t.now) (drop 1 c.args.t.now))) c.told.result c.first_fallen-first.ensures (ids-length c.args.row c.args.t.now c.requires.0) c.told.ensures
