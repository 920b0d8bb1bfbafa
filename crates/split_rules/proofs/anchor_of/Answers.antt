-- `split_rules::anchor_of` meets its contract: a rule that names no cut lane has no anchor here. Assumes nothing.
use mathlib.Core.Path.{refl}
use native.Mathlib.Omega.{arith}
use Rattle.split_rules.proofs.Passing.{rule-there, rule-few, anchor_named, anchor_other}
use Rattle.split_rules.proofs.anchor_of.Goals as goal

pub overflow_mul-from : goal.overflow_mul-from
overflow_mul-from c = let a = c.args in omega (arith, rule-there a.rules.now c.requires.0 a.i c.requires.1.0 c.requires.1.1.0, rule-few a.rules.now c.requires.0 a.i c.requires.1.0 c.requires.1.1.0)

pub overflow_add-from : goal.overflow_add-from
overflow_add-from c = let a = c.args in omega (arith, rule-there a.rules.now c.requires.0 a.i c.requires.1.0 c.requires.1.1.0, rule-few a.rules.now c.requires.0 a.i c.requires.1.0 c.requires.1.1.0)

pub overflow_add-from-2 : goal.overflow_add-from-2
overflow_add-from-2 c = let a = c.args in omega (arith, rule-there a.rules.now c.requires.0 a.i c.requires.1.0 c.requires.1.1.0, rule-few a.rules.now c.requires.0 a.i c.requires.1.0 c.requires.1.1.0)

pub overflow_add-from-3 : goal.overflow_add-from-3
overflow_add-from-3 c = let a = c.args in omega (arith, rule-there a.rules.now c.requires.0 a.i c.requires.1.0 c.requires.1.1.0, rule-few a.rules.now c.requires.0 a.i c.requires.1.0 c.requires.1.1.0)

pub offset_bounds-rules-from : goal.offset_bounds-rules-from
offset_bounds-rules-from c = let a = c.args in omega (arith, rule-there a.rules.now c.requires.0 a.i c.requires.1.0 c.requires.1.1.0, rule-few a.rules.now c.requires.0 a.i c.requires.1.0 c.requires.1.1.0)

pub bounds-rules-from : goal.bounds-rules-from
bounds-rules-from c = let a = c.args in omega (arith, rule-there a.rules.now c.requires.0 a.i c.requires.1.0 c.requires.1.1.0, rule-few a.rules.now c.requires.0 a.i c.requires.1.0 c.requires.1.1.0)

pub overflow_add-to : goal.overflow_add-to
overflow_add-to c = let a = c.args in omega (arith, rule-there a.rules.now c.requires.0 a.i c.requires.1.0 c.requires.1.1.0, rule-few a.rules.now c.requires.0 a.i c.requires.1.0 c.requires.1.1.0)

pub offset_bounds-rules-from-2 : goal.offset_bounds-rules-from-2
offset_bounds-rules-from-2 c = let a = c.args in omega (arith, rule-there a.rules.now c.requires.0 a.i c.requires.1.0 c.requires.1.1.0, rule-few a.rules.now c.requires.0 a.i c.requires.1.0 c.requires.1.1.0)

pub slice_bounds-names_cut-end : goal.slice_bounds-names_cut-end
slice_bounds-names_cut-end c = let a = c.args in omega (arith, rule-there a.rules.now c.requires.0 a.i c.requires.1.0 c.requires.1.1.0, rule-few a.rules.now c.requires.0 a.i c.requires.1.0 c.requires.1.1.0)

pub names_cut-requires : goal.names_cut-requires
names_cut-requires c = c.requires.1.1.1.0

pub rule_anchor-requires : goal.rule_anchor-requires
rule_anchor-requires c = (c.requires.0, (c.requires.1.0, c.requires.1.1.1.1))

pub returns-then-names_cut : goal.returns-then-names_cut
returns-then-names_cut c = let a = c.args in anchor_named a.rules.now c.requires.0 a.i c.requires.1.0 c.requires.1.1.0 a.cut.now _ refl c.names_cut.result c.names_cut.ensures a.coordinates.now a.stop_lines.now a.crosswalks.now c.if-names_cut.true c.rule_anchor.result c.rule_anchor.ensures

pub returns : goal.returns
returns c = let a = c.args in anchor_other a.rules.now c.requires.0 a.i c.requires.1.0 c.requires.1.1.0 a.cut.now _ refl c.names_cut.result c.names_cut.ensures a.coordinates.now a.stop_lines.now a.crosswalks.now c.if-names_cut.false
