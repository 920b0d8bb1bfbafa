-- `anchors::rule_anchor` meets its contract: by the kind of the rule and its count of stop lines. Assumes nothing.
use native.Mathlib.Omega.{arith}
use Rattle.row_tests.proofs.Tables.{row_room}
use Rattle.anchors.proofs.Anchor.{anchor_stop, anchor_cross, anchor_none}
use Rattle.anchors.proofs.rule_anchor.Goals as goal

pub overflow_mul-at : goal.overflow_mul-at
overflow_mul-at c = omega (arith, row_room 512 330 c.args.rules.now c.requires.0 c.args.i c.requires.1.0)

pub overflow_add-at : goal.overflow_add-at
overflow_add-at c = omega (arith, row_room 512 330 c.args.rules.now c.requires.0 c.args.i c.requires.1.0)

pub overflow_add-kind : goal.overflow_add-kind
overflow_add-kind c = omega (arith, row_room 512 330 c.args.rules.now c.requires.0 c.args.i c.requires.1.0)

pub offset_bounds-rules-at : goal.offset_bounds-rules-at
offset_bounds-rules-at c = omega (arith, row_room 512 330 c.args.rules.now c.requires.0 c.args.i c.requires.1.0)

pub bounds-rules-at : goal.bounds-rules-at
bounds-rules-at c = omega (arith, row_room 512 330 c.args.rules.now c.requires.0 c.args.i c.requires.1.0)

pub overflow_add-at-2 : goal.overflow_add-at-2
overflow_add-at-2 c = omega (arith, row_room 512 330 c.args.rules.now c.requires.0 c.args.i c.requires.1.0)

pub offset_bounds-rules-at-2 : goal.offset_bounds-rules-at-2
offset_bounds-rules-at-2 c = omega (arith, row_room 512 330 c.args.rules.now c.requires.0 c.args.i c.requires.1.0)

pub bounds-rules-at-2 : goal.bounds-rules-at-2
bounds-rules-at-2 c = omega (arith, row_room 512 330 c.args.rules.now c.requires.0 c.args.i c.requires.1.0)

pub overflow_add-at-then-both : goal.overflow_add-at-then-both
overflow_add-at-then-both c = omega (arith, row_room 512 330 c.args.rules.now c.requires.0 c.args.i c.requires.1.0)

pub offset_bounds-rules-at-then-both : goal.offset_bounds-rules-at-then-both
offset_bounds-rules-at-then-both c = omega (arith, row_room 512 330 c.args.rules.now c.requires.0 c.args.i c.requires.1.0)

pub bounds-rules-at-then-both : goal.bounds-rules-at-then-both
bounds-rules-at-then-both c = omega (arith, row_room 512 330 c.args.rules.now c.requires.0 c.args.i c.requires.1.0)

pub returns-then-both : goal.returns-then-both
returns-then-both c = anchor_stop c.args.coordinates.now c.args.stops.now c.args.crosswalks.now c.args.rules.now c.args.i c.requires.0 c.requires.1.0 c.both.result c.both.ensures c.if-both.true c.stop_anchor.result c.stop_anchor.ensures

pub overflow_add-at-then-kind-eq-CROSSWALK_RULE : goal.overflow_add-at-then-kind-eq-CROSSWALK_RULE
overflow_add-at-then-kind-eq-CROSSWALK_RULE c = omega (arith, row_room 512 330 c.args.rules.now c.requires.0 c.args.i c.requires.1.0)

pub offset_bounds-rules-at-then-kind-eq-CROSSWALK_RULE : goal.offset_bounds-rules-at-then-kind-eq-CROSSWALK_RULE
offset_bounds-rules-at-then-kind-eq-CROSSWALK_RULE c = omega (arith, row_room 512 330 c.args.rules.now c.requires.0 c.args.i c.requires.1.0)

pub bounds-rules-at-then-kind-eq-CROSSWALK_RULE : goal.bounds-rules-at-then-kind-eq-CROSSWALK_RULE
bounds-rules-at-then-kind-eq-CROSSWALK_RULE c = omega (arith, row_room 512 330 c.args.rules.now c.requires.0 c.args.i c.requires.1.0)

pub returns-then-kind-eq-CROSSWALK_RULE : goal.returns-then-kind-eq-CROSSWALK_RULE
returns-then-kind-eq-CROSSWALK_RULE c = anchor_cross c.args.coordinates.now c.args.stops.now c.args.crosswalks.now c.args.rules.now c.args.i c.requires.0 c.requires.1.0 c.both.result c.both.ensures c.if-both.false c.if-kind-eq-CROSSWALK_RULE.true c.crosswalk_anchor.result c.crosswalk_anchor.ensures

pub returns : goal.returns
returns c = anchor_none c.args.coordinates.now c.args.stops.now c.args.crosswalks.now c.args.rules.now c.args.i c.requires.0 c.requires.1.0 c.both.result c.both.ensures c.if-both.false c.if-kind-eq-CROSSWALK_RULE.false
