-- `row_faults::first_failing` meets its contract: the test of row i is the definition's. Assumes nothing.
use Rattle.std.proofs.Common.{rules}
use Rattle.tables.specs.View.{rows}
use Rattle.row_faults.specs.Passes.{row_passes}
use Rattle.row_faults.proofs.First.{tests-length}
use Rattle.row_faults.proofs.first_failing.Goals as goal

pub returns : goal.returns
returns c =
    let a = c.args in
    let p = row_passes a.clause a.table a.most a.coordinates.now in
    c.first_row.ensures (rows a.row p a.t.now) (tests-length a.row p a.t.now) (λ i b k says. search rules)
