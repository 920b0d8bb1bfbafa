-- `faults::row_fault` meets its contract. What the search found. Assumes nothing.
use native.Mathlib.Omega.{arith}
use lib.ListN.{get_or}
use Rattle.tables.specs.View.{rows}
use Rattle.row_tests.proofs.Tables.{table-some}
use Rattle.row_faults.specs.Passes.{row_passes}
use Rattle.row_faults.proofs.First.{tests-length}
use Rattle.faults.proofs.Laws.{told_in}
use Rattle.faults.proofs.row_fault.Goals as goal

pub bounds-t-0 : goal.bounds-t-0
bounds-t-0 c = omega (arith, table-some c.args.limit c.args.row c.args.t.now c.requires.1)

pub returns : goal.returns
returns c =
    let p = row_passes c.args.clause c.args.table c.args.most c.args.coordinates.now in
    told_in c.args.clause c.args.table c.first_failing-first.result (get_or c.args.t.now 0 0) (rows c.args.row p c.args.t.now) c.told.result c.first_failing-first.ensures (tests-length c.args.row p c.args.t.now) c.told.ensures
