-- `map::sound::rule_numbers` meets its contract. Each test is a callee's. Assumes nothing.
use Rattle.row_tests.specs.Good.{rule_numbers}
use Rattle.entity_tests.proofs.rule_numbers.Goals as goal

pub returns : goal.returns
unfolding rule_numbers
returns c = rw (c.both-4.ensures, c.either.ensures, c.stops_fit.ensures, c.both-3.ensures, c.either-crosswalk.ensures, c.both-numbers.ensures, c.handle.ensures, c.both-2.ensures, c.content_good.ensures, c.both.ensures)
