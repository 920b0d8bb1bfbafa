-- `row_faults::row_passes_at` meets its contract: the row is lent as its part of the table. Assumes nothing.
use mathlib.Core.Path.{sym, ◌∙◌}
use Rattle.row_faults.specs.Passes.{row_passes}
use Rattle.row_faults.proofs.First.{test_at}
use Rattle.row_faults.proofs.row_passes_at.Goals as goal

pub returns : goal.returns
returns c = let a = c.args in c.row_passes.ensures ∙ sym (test_at a.row (row_passes a.clause a.table a.most a.coordinates.now) a.t.now a.i c.requires.1.1)
