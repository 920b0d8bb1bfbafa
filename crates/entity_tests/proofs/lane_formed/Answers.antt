-- `map::sound::lane_formed` meets its contract. The tests of the definition in its order. Assumes nothing.
use Rattle.tables.specs.Formed.{lane_formed}
use Rattle.entity_tests.proofs.lane_formed.Goals as goal

pub returns : goal.returns
unfolding lane_formed
returns c = rw (c.both-7.ensures, c.both-6.ensures, c.both-5.ensures, c.both-4.ensures, c.both-marks.ensures, c.both-3.ensures, c.both-2.ensures, c.both.ensures)
