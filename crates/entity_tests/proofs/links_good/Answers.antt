-- `map::sound::links_good` meets its contract. The two tests of the definition. Assumes nothing.
use Rattle.row_tests.specs.Good.{links_good}
use Rattle.entity_tests.proofs.links_good.Goals as goal

pub returns : goal.returns
unfolding links_good
returns c = rw (c.both.ensures, c.ascends.ensures, c.all_at_most.ensures)
