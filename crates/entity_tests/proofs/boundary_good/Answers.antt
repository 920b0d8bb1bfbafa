-- `map::sound::boundary_good` meets its contract. The tests of the definition in its order. Assumes nothing.
use Rattle.row_tests.specs.Good.{boundary_good}
use Rattle.entity_tests.proofs.boundary_good.Goals as goal

pub returns : goal.returns
unfolding boundary_good
returns c = rw (c.both-2.ensures, c.both-numbers.ensures, c.both.ensures, c.handle.ensures, c.line_good.ensures)
