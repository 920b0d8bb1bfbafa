-- `row_faults::junction_passes` meets its contract. What the calls found. Assumes nothing.
use Rattle.row_faults.specs.Passes.{junction_passes}
use Rattle.row_faults.proofs.junction_passes.Goals as goal

pub returns : goal.returns
unfolding junction_passes
returns c = rw (c.listed.ensures, c.both-2.ensures, c.both.ensures, c.handle.ensures, c.handle-2.ensures, c.handle-3.ensures, c.list_named.ensures, c.junction_good.ensures)
