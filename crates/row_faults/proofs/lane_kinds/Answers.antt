-- `row_faults::lane_kinds` meets its contract. The tests of the definition in its order. Assumes nothing.
use Rattle.row_faults.specs.Passes.{lane_kinds}
use Rattle.row_faults.proofs.lane_kinds.Goals as goal

pub returns : goal.returns
unfolding lane_kinds
returns c = rw (c.both-2.ensures, c.both.ensures, c.handle.ensures)
