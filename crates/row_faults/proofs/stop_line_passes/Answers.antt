-- `row_faults::stop_line_passes` meets its contract. What the calls found. Assumes nothing.
use Rattle.row_faults.specs.Passes.{stop_line_passes}
use Rattle.row_faults.proofs.stop_line_passes.Goals as goal

pub returns : goal.returns
unfolding stop_line_passes
returns c = rw (c.drawn.ensures, c.handle.ensures, c.stop_line_good.ensures)
