-- `row_faults::first_fallen` meets its contract: the test of row i is the definition's. Assumes nothing.
use Rattle.std.proofs.Common.{drop, rules}
use Rattle.lists.specs.Rows.{keys}
use Rattle.tables.specs.View.{word}
use Rattle.row_faults.specs.First.{rises}
use Rattle.row_faults.proofs.First.{ids-length}
use Rattle.row_faults.proofs.first_fallen.Goals as goal

pub returns : goal.returns
returns c = let a = c.args in c.first_row.ensures (rises (keys a.row (word 0 a.t.now) (drop 1 a.t.now))) (ids-length a.row a.t.now c.requires.0) (λ i b k says. search rules)
