-- `follows::mark_rules` meets its contract. The invariant: the first i marks are those of the first i rules. Assumes nothing.
use Prim.Native.Nat.{◌-◌}
use native.Mathlib.Omega.{arith}
use Rattle.follows.proofs.Differs.{Marked, mark-begins, mark-some, mark-few, mark-long, mark-room, past_room, mark-may, mark-turn, mark-ends}
use Rattle.follows.proofs.mark_rules.Goals as goal

pub bounds-t-0 : goal.bounds-t-0
bounds-t-0 c = omega (arith, mark-some c.args.anchored.now c.args.past.now c.args.cut.now c.args.t.now c.args.marks.now c.requires)

pub loop-i-init : goal.loop-i-init
loop-i-init c = mark-begins c.args.anchored.now c.args.past.now c.args.cut.now c.args.t.now c.args.marks.now c.requires

pub overflow_mul-at : goal.overflow_mul-at
overflow_mul-at c = omega (arith, mark-few c.args.anchored.now c.args.past.now c.args.cut.now c.args.t.now c.args.marks.now c.requires c.loop-i.i c.loop-i.marks c.loop-i.invariant c.loop-i-test.true)

pub overflow_add-at : goal.overflow_add-at
overflow_add-at c = omega (arith, mark-few c.args.anchored.now c.args.past.now c.args.cut.now c.args.t.now c.args.marks.now c.requires c.loop-i.i c.loop-i.marks c.loop-i.invariant c.loop-i-test.true)

pub overflow_add-end : goal.overflow_add-end
overflow_add-end c = omega (arith, mark-few c.args.anchored.now c.args.past.now c.args.cut.now c.args.t.now c.args.marks.now c.requires c.loop-i.i c.loop-i.marks c.loop-i.invariant c.loop-i-test.true)

pub overflow_mul-first : goal.overflow_mul-first
overflow_mul-first c = omega (arith, mark-few c.args.anchored.now c.args.past.now c.args.cut.now c.args.t.now c.args.marks.now c.requires c.loop-i.i c.loop-i.marks c.loop-i.invariant c.loop-i-test.true)

pub overflow_add-last : goal.overflow_add-last
overflow_add-last c = omega (arith, mark-few c.args.anchored.now c.args.past.now c.args.cut.now c.args.t.now c.args.marks.now c.requires c.loop-i.i c.loop-i.marks c.loop-i.invariant c.loop-i-test.true)

pub offset_bounds-t-at : goal.offset_bounds-t-at
offset_bounds-t-at c = omega (arith, mark-few c.args.anchored.now c.args.past.now c.args.cut.now c.args.t.now c.args.marks.now c.requires c.loop-i.i c.loop-i.marks c.loop-i.invariant c.loop-i-test.true)

pub slice_bounds-rule_differs-count : goal.slice_bounds-rule_differs-count
slice_bounds-rule_differs-count c = omega arith

pub slice_bounds-rule_differs-start : goal.slice_bounds-rule_differs-start
slice_bounds-rule_differs-start c = omega arith

pub slice_bounds-rule_differs-end : goal.slice_bounds-rule_differs-end
slice_bounds-rule_differs-end c = omega (arith, mark-room c.args.anchored.now c.args.past.now c.args.cut.now c.args.t.now c.args.marks.now c.requires c.loop-i.i c.loop-i.marks c.loop-i.invariant c.loop-i-test.true)

pub bounds-anchored-i : goal.bounds-anchored-i
bounds-anchored-i c = omega (arith, c.loop-i-test.true, c.requires.anchors)

pub slice_bounds-rule_differs-count-in-loop-i : goal.slice_bounds-rule_differs-count-in-loop-i
slice_bounds-rule_differs-count-in-loop-i c = omega arith

pub slice_bounds-rule_differs-start-in-loop-i : goal.slice_bounds-rule_differs-start-in-loop-i
slice_bounds-rule_differs-start-in-loop-i c = omega arith

pub slice_bounds-rule_differs-end-in-loop-i : goal.slice_bounds-rule_differs-end-in-loop-i
slice_bounds-rule_differs-end-in-loop-i c = omega (arith, past_room c.args.anchored.now c.args.past.now c.args.cut.now c.args.t.now c.args.marks.now c.requires c.loop-i.i c.loop-i.marks c.loop-i.invariant c.loop-i-test.true)

pub rule_differs-requires : goal.rule_differs-requires
rule_differs-requires c = mark-may c.args.anchored.now c.args.past.now c.args.cut.now c.args.t.now c.args.marks.now c.requires c.loop-i.i c.loop-i.marks c.loop-i.invariant c.loop-i-test.true

pub bounds-marks-i : goal.bounds-marks-i
bounds-marks-i c = omega (arith, c.loop-i-test.true, c.requires.room, mark-long c.args.anchored.now c.args.past.now c.args.cut.now c.args.t.now c.args.marks.now c.requires c.loop-i.i c.loop-i.marks c.loop-i.invariant)

pub loop-i-preserved : goal.loop-i-preserved
loop-i-preserved c = mark-turn c.args.anchored.now c.args.past.now c.args.cut.now c.args.t.now c.args.marks.now c.requires c.loop-i.i c.loop-i.marks c.loop-i.invariant c.loop-i-test.true c.rule_differs.result c.rule_differs.ensures

pub shape_of-marks : goal.shape_of-marks
shape_of-marks c = mark-long c.args.anchored.now c.args.past.now c.args.cut.now c.args.t.now c.args.marks.now c.requires c.loop-i.i c.loop-i.marks c.loop-i.invariant

pub returns : goal.returns
returns c = mark-ends c.args.anchored.now c.args.past.now c.args.cut.now c.args.t.now c.args.marks.now c.requires c.loop-i.i c.loop-i.marks c.loop-i.invariant c.loop-i-test.false
