-- `row_faults::boundary_passes` meets its contract. What the calls found. Assumes nothing.
use Rattle.row_faults.specs.Passes.{boundary_passes}
use Rattle.row_faults.proofs.boundary_passes.Goals as goal

pub returns : goal.returns
unfolding boundary_passes
returns c = rw (c.drawn.ensures, c.both.ensures, c.handle.ensures, c.boundary_good.ensures)
