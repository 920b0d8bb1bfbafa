-- `split_lists::count_dropped` meets its contract. The invariant: the warnings of the marked rows before row i are counted, and `second` is the next one's
-- second half. Assumes nothing.
use native.Mathlib.Omega.{arith}
use Rattle.split_lists.proofs.Dropped.{numbers-begin, count-begins, beside-some, beside-few, beside-room, number-below, numbers-one, numbers-none, count-one, count_none, count-ends}
use Rattle.split_lists.proofs.count_dropped.Goals as goal

pub bounds-lanes-0 : goal.bounds-lanes-0
bounds-lanes-0 c = omega (arith, beside-some c.args.cut.now c.args.next c.args.seen.now c.args.lanes.now c.requires)

pub loop-i-init : goal.loop-i-init
loop-i-init c = (numbers-begin c.args.cut.now c.args.next c.args.seen.now c.args.lanes.now, count-begins c.args.cut.now c.args.next c.args.seen.now c.args.lanes.now)

pub bounds-seen-i : goal.bounds-seen-i
bounds-seen-i c = omega (arith, c.loop-i-test.true, c.requires.marks_there)

pub count_row-count-requires : goal.count_row-count-requires
count_row-count-requires c = (c.requires.ascend, beside-room c.args.cut.now c.args.next c.args.seen.now c.args.lanes.now c.requires c.loop-i.i c.loop-i.second c.loop-i.invariant.0 c.loop-i-test.true)

pub overflow_add-count : goal.overflow_add-count
overflow_add-count c = omega (arith, c.loop-i.invariant.1.few, c.count_row-count.ensures.1, beside-few c.args.cut.now c.args.next c.args.seen.now c.args.lanes.now c.requires c.loop-i.i c.loop-i.second c.loop-i.invariant.0 c.loop-i-test.true)

pub overflow_add-second : goal.overflow_add-second
overflow_add-second c = omega (arith, number-below c.args.cut.now c.args.next c.args.seen.now c.args.lanes.now c.requires c.loop-i.i c.loop-i.second c.loop-i.invariant.0 c.loop-i-test.true c.if-seen-i.true)

pub loop-i-preserved : goal.loop-i-preserved
loop-i-preserved c =
    elim c.if-seen-i.branch [
      | goal.then-seen-i s ↦ (numbers-one c.args.cut.now c.args.next c.args.seen.now c.args.lanes.now c.requires c.loop-i.i c.loop-i.second c.loop-i.invariant.0 c.loop-i-test.true s.if-seen-i.true c.if-seen-i.second s.second-is, count-one c.args.cut.now c.args.next c.args.seen.now c.args.lanes.now c.requires c.loop-i.i c.loop-i.count c.loop-i.invariant.1 c.loop-i.second c.loop-i.invariant.0 c.loop-i-test.true s.if-seen-i.true s.count_row-count.result c.if-seen-i.count s.count_row-count.ensures s.count-is)
      | goal.else-seen-i s ↦ (numbers-none c.args.cut.now c.args.next c.args.seen.now c.args.lanes.now c.requires c.loop-i.i c.loop-i.second c.loop-i.invariant.0 c.loop-i-test.true s.if-seen-i.false c.if-seen-i.second s.second-is, count_none c.args.cut.now c.args.next c.args.seen.now c.args.lanes.now c.requires c.loop-i.i c.loop-i.count c.loop-i.invariant.1 c.loop-i.second c.loop-i.invariant.0 c.loop-i-test.true s.if-seen-i.false c.if-seen-i.count s.count-is)
    ]

pub returns : goal.returns
returns c = count-ends c.args.cut.now c.args.next c.args.seen.now c.args.lanes.now c.requires c.loop-i.i c.loop-i.count c.loop-i.invariant.1 c.loop-i.invariant.0.upto c.loop-i-test.false
