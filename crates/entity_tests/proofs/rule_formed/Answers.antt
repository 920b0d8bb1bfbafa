-- `map::sound::rule_formed` meets its contract. The tests of the definition, by the kind. Assumes nothing.
use Rattle.tables.specs.Formed.{rule_formed}
use Rattle.entity_tests.proofs.rule_formed.Goals as goal

pub returns : goal.returns
unfolding rule_formed
returns c = rw (c.both-3.ensures, c.both-2.ensures, c.both-own.ensures, c.either-stops.ensures, c.either-ways.ensures, c.both.ensures)
