-- `faults::back_fault` meets its contract. What the search found. Assumes nothing.
use native.Mathlib.Omega.{arith}
use lib.ListN.{get_or}
use Rattle.tables.specs.View.{rows}
use Rattle.row_tests.proofs.Lanes.{lanes-some}
use Rattle.row_returns.specs.Returns.{named_back}
use Rattle.row_faults.specs.declared.Table.TheVariants.{Lane}
use Rattle.row_faults.proofs.First.{tests-length}
use Rattle.faults.proofs.Laws.{told_in}
use Rattle.faults.proofs.back_fault.Goals as goal

pub bounds-lanes-0 : goal.bounds-lanes-0
bounds-lanes-0 c = omega (arith, lanes-some c.args.lanes.now c.requires)

pub returns : goal.returns
returns c =
    let p = named_back c.args.clause c.args.lanes.now in
    told_in c.args.clause Lane c.first_unreturned-first.result (get_or c.args.lanes.now 0 0) (rows 52 p c.args.lanes.now) c.told.result c.first_unreturned-first.ensures (tests-length 52 p c.args.lanes.now) c.told.ensures
