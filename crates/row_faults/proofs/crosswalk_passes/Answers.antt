-- `row_faults::crosswalk_passes` meets its contract. What the calls found. Assumes nothing.
use Rattle.row_faults.specs.Passes.{crosswalk_passes}
use Rattle.row_faults.proofs.crosswalk_passes.Goals as goal

pub returns : goal.returns
unfolding crosswalk_passes
returns c = rw (c.drawn.ensures, c.both.ensures, c.handle.ensures, c.handle-2.ensures, c.crosswalk_good.ensures)
