-- `map::sound::crosswalk_good` meets its contract. The tests of the definition in its order. Assumes nothing.
use Rattle.row_tests.specs.Good.{crosswalk_good}
use Rattle.entity_tests.proofs.crosswalk_good.Goals as goal

pub returns : goal.returns
unfolding crosswalk_good
returns c = rw (c.both-3.ensures, c.both-2.ensures, c.both-numbers.ensures, c.both.ensures, c.handle.ensures, c.handle-2.ensures, c.line_good.ensures, c.line_good-2.ensures)
