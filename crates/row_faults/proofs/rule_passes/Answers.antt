-- `row_faults::rule_passes` meets its contract. What the calls found. Assumes nothing.
use Rattle.row_faults.specs.Passes.{rule_passes}
use Rattle.row_faults.proofs.rule_passes.Goals as goal

pub returns : goal.returns
unfolding rule_passes
returns c = rw (c.listed.ensures, c.rule_formed.ensures, c.rule_kinds.ensures, c.rule_named.ensures, c.rule_good.ensures)
