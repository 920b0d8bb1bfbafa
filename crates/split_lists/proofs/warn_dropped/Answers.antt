-- `split_lists::warn_dropped` meets its contract. The invariant: the warnings of the marked rows before row i stand from row `from` on, and `second` is the
-- next one's second half. Assumes nothing.
use native.Mathlib.Omega.{arith}
use Rattle.split_lists.proofs.Dropped.{numbers-begin, warned-begins, beside-some, beside-room, number-below, numbers-one, numbers-none, warned-room, warned-one, warned-none, warned-ends, warned-length}
use Rattle.split_lists.proofs.warn_dropped.Goals as goal

pub bounds-lanes-0 : goal.bounds-lanes-0
bounds-lanes-0 c = omega (arith, beside-some c.args.cut.now c.args.next c.args.seen.now c.args.lanes.now c.requires.0)

pub loop-i-init : goal.loop-i-init
loop-i-init c = (numbers-begin c.args.cut.now c.args.next c.args.seen.now c.args.lanes.now, warned-begins c.args.cut.now c.args.next c.args.seen.now c.args.lanes.now c.args.warnings.now c.args.from)

pub bounds-seen-i : goal.bounds-seen-i
bounds-seen-i c = omega (arith, c.loop-i-test.true, c.requires.0.marks_there)

pub warn_row-at-requires : goal.warn_row-at-requires
warn_row-at-requires c = (c.requires.0.ascend, (beside-room c.args.cut.now c.args.next c.args.seen.now c.args.lanes.now c.requires.0 c.loop-i.i c.loop-i.second c.loop-i.invariant.0 c.loop-i-test.true, warned-room c.args.cut.now c.args.next c.args.seen.now c.args.lanes.now c.args.warnings.now c.args.from c.requires.0 c.requires.1 c.loop-i.i c.loop-i.warnings c.loop-i.at c.loop-i.invariant.1 c.loop-i.second c.loop-i.invariant.0 c.loop-i-test.true c.if-seen-i.true))

pub overflow_add-second : goal.overflow_add-second
overflow_add-second c = omega (arith, number-below c.args.cut.now c.args.next c.args.seen.now c.args.lanes.now c.requires.0 c.loop-i.i c.loop-i.second c.loop-i.invariant.0 c.loop-i-test.true c.if-seen-i.true)

pub loop-i-preserved : goal.loop-i-preserved
loop-i-preserved c =
    elim c.if-seen-i.branch [
      | goal.then-seen-i s ↦ (numbers-one c.args.cut.now c.args.next c.args.seen.now c.args.lanes.now c.requires.0 c.loop-i.i c.loop-i.second c.loop-i.invariant.0 c.loop-i-test.true s.if-seen-i.true c.if-seen-i.second s.second-is, warned-one c.args.cut.now c.args.next c.args.seen.now c.args.lanes.now c.args.warnings.now c.args.from c.requires.0 c.requires.1 c.loop-i.i c.loop-i.warnings c.loop-i.at c.loop-i.invariant.1 c.loop-i.second c.loop-i.invariant.0 c.loop-i-test.true s.if-seen-i.true s.warn_row-at.result s.warn_row-at.new.warnings c.if-seen-i.at c.if-seen-i.warnings s.warn_row-at.ensures s.warnings-is s.at-is)
      | goal.else-seen-i s ↦ (numbers-none c.args.cut.now c.args.next c.args.seen.now c.args.lanes.now c.requires.0 c.loop-i.i c.loop-i.second c.loop-i.invariant.0 c.loop-i-test.true s.if-seen-i.false c.if-seen-i.second s.second-is, warned-none c.args.cut.now c.args.next c.args.seen.now c.args.lanes.now c.args.warnings.now c.args.from c.requires.0 c.requires.1 c.loop-i.i c.loop-i.warnings c.loop-i.at c.loop-i.invariant.1 c.loop-i.second c.loop-i.invariant.0 c.loop-i-test.true s.if-seen-i.false c.if-seen-i.warnings c.if-seen-i.at s.warnings-is s.at-is)
    ]

pub shape_of-warnings : goal.shape_of-warnings
shape_of-warnings c = warned-length c.args.cut.now c.args.next c.args.seen.now c.args.lanes.now c.args.warnings.now c.args.from c.requires.0 c.requires.1 c.loop-i.i c.loop-i.warnings c.loop-i.at c.loop-i.invariant.1 c.loop-i-test.false

pub returns : goal.returns
returns c = warned-ends c.args.cut.now c.args.next c.args.seen.now c.args.lanes.now c.args.warnings.now c.args.from c.requires.0 c.requires.1 c.loop-i.i c.loop-i.warnings c.loop-i.at c.loop-i.invariant.1 c.loop-i-test.false
