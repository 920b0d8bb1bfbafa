-- `row_faults::rule_named` meets its contract. The lists are read of a formed row only. Assumes nothing.
use mathlib.Core.Path.{sym, ◌∙◌}
use native.Mathlib.Omega.{arith}
use Rattle.lists.proofs.Booleans.{and-fst}
use Rattle.row_faults.specs.Passes.{rule_named}
use Rattle.row_faults.proofs.rule_named.Goals as goal

pub rule_lists-requires : goal.rule_lists-requires
rule_lists-requires c =
    (omega arith, sym c.rule_formed.ensures ∙ and-fst c.rule_formed.result c.rule_numbers.result (sym c.both.ensures ∙ c.if-both.true))

pub returns-then-both : goal.returns-then-both
unfolding rule_named
returns-then-both c = rw (← c.rule_formed.ensures, ← c.rule_numbers.ensures, ← c.both.ensures, c.if-both.true, c.rule_lists.ensures)

pub returns : goal.returns
unfolding rule_named
returns c = rw (← c.rule_formed.ensures, ← c.rule_numbers.ensures, ← c.both.ensures, c.if-both.false)
