-- `map::sound::lane_numbers` meets its contract. The tests of the definition in its order. Assumes nothing.
use Rattle.row_tests.specs.Good.{lane_numbers}
use Rattle.entity_tests.proofs.lane_numbers.Goals as goal

pub returns : goal.returns
unfolding lane_numbers
returns c = rw (c.both-5.ensures, c.both-4.ensures, c.both-ids.ensures, c.both-3.ensures, c.both-2.ensures, c.both-kinds.ensures, c.both.ensures, c.handle.ensures, c.slot_good.ensures, c.slot_good-2.ensures)
