-- `map::sound::stop_line_good` meets its contract. The tests of the definition in its order. Assumes nothing.
use Rattle.row_tests.specs.Good.{stop_line_good}
use Rattle.entity_tests.proofs.stop_line_good.Goals as goal

pub returns : goal.returns
unfolding stop_line_good
returns c = rw (c.both-2.ensures, c.both.ensures, c.handle.ensures, c.line_good.ensures)
