-- `row_faults::rule_kinds` meets its contract. The tests of the definition in its order. Assumes nothing.
use Rattle.row_faults.specs.Passes.{rule_kinds}
use Rattle.row_faults.proofs.rule_kinds.Goals as goal

pub returns : goal.returns
unfolding rule_kinds
returns c = rw (c.both-3.ensures, c.both-2.ensures, c.both.ensures, c.content_good.ensures, c.handle.ensures, c.either.ensures, c.stops_fit.ensures)
