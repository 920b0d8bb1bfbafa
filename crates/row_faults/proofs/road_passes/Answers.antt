-- `row_faults::road_passes` meets its contract. What the calls found. Assumes nothing.
use Rattle.row_faults.specs.Passes.{road_passes}
use Rattle.row_faults.proofs.road_passes.Goals as goal

pub returns : goal.returns
unfolding road_passes
returns c = rw (c.listed.ensures, c.both.ensures, c.handle.ensures, c.handle-2.ensures, c.list_named.ensures, c.road_good.ensures)
