-- `split_room::rules_fit` meets its contract. The invariant: the rules before number i fit, so all do where those from there on do. Assumes nothing.
use mathlib.Core.Bool.{not}
use mathlib.Core.Path.{refl, ap}
use native.Mathlib.Omega.{arith}
use Rattle.split_room.proofs.Places.{rules-some, rules-end, rules-few, rules-room, rule-asks, rules-stop, rules-go-on}
use Rattle.split_room.proofs.rules_fit.Goals as goal

pub bounds-rules-0 : goal.bounds-rules-0
bounds-rules-0 c = omega (arith, rules-some c.args.anchored.now c.args.cut.now c.args.rules.now c.requires)

pub loop-i-init : goal.loop-i-init
loop-i-init c = (omega arith, refl)

pub overflow_mul-at : goal.overflow_mul-at
overflow_mul-at c = omega (arith, rules-few c.args.anchored.now c.args.cut.now c.args.rules.now c.requires c.loop-i.i c.loop-i.invariant.1 c.loop-i-test.true)

pub overflow_add-at : goal.overflow_add-at
overflow_add-at c = omega (arith, rules-few c.args.anchored.now c.args.cut.now c.args.rules.now c.requires c.loop-i.i c.loop-i.invariant.1 c.loop-i-test.true)

pub overflow_add-end : goal.overflow_add-end
overflow_add-end c = omega (arith, rules-few c.args.anchored.now c.args.cut.now c.args.rules.now c.requires c.loop-i.i c.loop-i.invariant.1 c.loop-i-test.true)

pub offset_bounds-rules-at : goal.offset_bounds-rules-at
offset_bounds-rules-at c = omega (arith, rules-few c.args.anchored.now c.args.cut.now c.args.rules.now c.requires c.loop-i.i c.loop-i.invariant.1 c.loop-i-test.true)

pub slice_bounds-rule_fits-count : goal.slice_bounds-rule_fits-count
slice_bounds-rule_fits-count c = omega (arith, rules-few c.args.anchored.now c.args.cut.now c.args.rules.now c.requires c.loop-i.i c.loop-i.invariant.1 c.loop-i-test.true)

pub slice_bounds-rule_fits-start : goal.slice_bounds-rule_fits-start
slice_bounds-rule_fits-start c = omega (arith, rules-few c.args.anchored.now c.args.cut.now c.args.rules.now c.requires c.loop-i.i c.loop-i.invariant.1 c.loop-i-test.true)

pub slice_bounds-rule_fits-end : goal.slice_bounds-rule_fits-end
slice_bounds-rule_fits-end c = omega (arith, rules-room c.args.anchored.now c.args.cut.now c.args.rules.now c.requires c.loop-i.i c.loop-i.invariant.1 c.loop-i-test.true)

pub bounds-anchored-i : goal.bounds-anchored-i
bounds-anchored-i c = omega (arith, c.loop-i-test.true, c.requires.anchors)

pub rule_fits-requires : goal.rule_fits-requires
rule_fits-requires c = rule-asks c.args.anchored.now c.args.cut.now c.args.rules.now c.requires c.loop-i.i c.loop-i.invariant.1 c.loop-i-test.true

pub returns-then-not-rule_fits : goal.returns-then-not-rule_fits
returns-then-not-rule_fits c = rules-stop c.args.anchored.now c.args.cut.now c.args.rules.now c.requires c.loop-i.i c.loop-i.invariant.1 c.loop-i-test.true c.rule_fits.result c.rule_fits.ensures (ap not c.if-not-rule_fits.true)

pub loop-i-preserved : goal.loop-i-preserved
loop-i-preserved c = (omega (arith, c.loop-i-test.true), rules-go-on c.args.anchored.now c.args.cut.now c.args.rules.now c.requires c.loop-i.i c.loop-i.invariant.1 c.loop-i-test.true c.rule_fits.result c.rule_fits.ensures (ap not c.if-not-rule_fits.false))

pub returns : goal.returns
returns c = rules-end c.args.anchored.now c.args.cut.now c.args.rules.now c.requires c.loop-i.i c.loop-i.invariant.1 c.loop-i-test.false
