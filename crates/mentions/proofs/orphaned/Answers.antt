-- `naming::orphaned` meets its contract: every lane of the rule is the one exactly if none is left without it. Assumes nothing.
use borrow.Author.Rules.{rules}
use native.Mathlib.Omega.{arith}
use Rattle.row_tests.proofs.Formed.{rule-lanes}
use Rattle.mentions.proofs.Tests.{orphan-counted, orphan-not}
use Rattle.mentions.proofs.orphaned.Goals as goal

pub overflow_add-to : goal.overflow_add-to
overflow_add-to c = omega (arith, c.requires.0, rule-lanes c.args.row.now c.requires.1)

pub slice_bounds-count_of-end : goal.slice_bounds-count_of-end
slice_bounds-count_of-end c = omega (arith, c.requires.0, rule-lanes c.args.row.now c.requires.1)

pub returns-then-rule_names : goal.returns-then-rule_names
returns-then-rule_names c =
    let p = c.rule_names in
    orphan-counted c.args.row.now c.args.id p.result p.ensures c.if-rule_names.true (omega (arith, c.requires.0, rule-lanes c.args.row.now c.requires.1)) c.count_of.result c.count_of.ensures

pub returns : goal.returns
returns c =
    let p = c.rule_names in
    orphan-not c.args.row.now c.args.id p.result p.ensures c.if-rule_names.false
