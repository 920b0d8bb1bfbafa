-- `split_lists::list_marked` meets its contract. The invariant: the ids of the marked rows before row i are listed. Assumes nothing.
use native.Mathlib.Omega.{arith}
use lib.ListN.{length-set}
use Rattle.split_lists.proofs.Entities.{listing_begins, listing-some, listing-ends, listing-row, listing_none, place-room, listing-long, listing-one, listing-whole}
use Rattle.split_lists.proofs.list_marked.Goals as goal

pub bounds-t-0 : goal.bounds-t-0
bounds-t-0 c = omega (arith, listing-some c.args.s c.args.marks.now c.args.t.now c.from-number.result c.args.at c.args.out.now c.args.kind c.from-number.ensures c.requires.0 c.requires.1)

pub loop-i-init : goal.loop-i-init
loop-i-init c = listing_begins c.args.s c.args.marks.now c.args.t.now c.from-number.result c.args.at c.args.out.now

pub bounds-marks-i : goal.bounds-marks-i
bounds-marks-i c = omega (arith, c.loop-i-test.true, c.requires.0.marks_there)

pub overflow_mul-word : goal.overflow_mul-word
overflow_mul-word c = omega (arith, place-room c.args.s c.args.marks.now c.args.t.now c.from-number.result c.args.at c.args.out.now c.args.kind c.from-number.ensures c.requires.0 c.requires.1 c.loop-i.i c.loop-i.place c.loop-i.out c.loop-i.invariant c.loop-i-test.true c.if-marks-i.true)

pub offset_bounds-out-word : goal.offset_bounds-out-word
offset_bounds-out-word c = omega (arith, place-room c.args.s c.args.marks.now c.args.t.now c.from-number.result c.args.at c.args.out.now c.args.kind c.from-number.ensures c.requires.0 c.requires.1 c.loop-i.i c.loop-i.place c.loop-i.out c.loop-i.invariant c.loop-i-test.true c.if-marks-i.true)

pub bounds-out-word : goal.bounds-out-word
bounds-out-word c = omega (arith, place-room c.args.s c.args.marks.now c.args.t.now c.from-number.result c.args.at c.args.out.now c.args.kind c.from-number.ensures c.requires.0 c.requires.1 c.loop-i.i c.loop-i.place c.loop-i.out c.loop-i.invariant c.loop-i-test.true c.if-marks-i.true, listing-long c.args.s c.args.marks.now c.args.t.now c.from-number.result c.args.at c.args.out.now c.args.kind c.from-number.ensures c.requires.0 c.requires.1 c.loop-i.i c.loop-i.place c.loop-i.out c.loop-i.invariant c.loop-i-test.true c.if-marks-i.true)

pub overflow_mul-out : goal.overflow_mul-out
overflow_mul-out c = omega (arith, listing-row c.args.s c.args.marks.now c.args.t.now c.from-number.result c.args.at c.args.out.now c.args.kind c.from-number.ensures c.requires.0 c.requires.1 c.loop-i.i c.loop-i.place c.loop-i.out c.loop-i.invariant c.loop-i-test.true)

pub overflow_add-out : goal.overflow_add-out
overflow_add-out c = omega (arith, listing-row c.args.s c.args.marks.now c.args.t.now c.from-number.result c.args.at c.args.out.now c.args.kind c.from-number.ensures c.requires.0 c.requires.1 c.loop-i.i c.loop-i.place c.loop-i.out c.loop-i.invariant c.loop-i-test.true)

pub offset_bounds-t-i : goal.offset_bounds-t-i
offset_bounds-t-i c = omega (arith, listing-row c.args.s c.args.marks.now c.args.t.now c.from-number.result c.args.at c.args.out.now c.args.kind c.from-number.ensures c.requires.0 c.requires.1 c.loop-i.i c.loop-i.place c.loop-i.out c.loop-i.invariant c.loop-i-test.true)

pub bounds-t-i : goal.bounds-t-i
bounds-t-i c = omega (arith, listing-row c.args.s c.args.marks.now c.args.t.now c.from-number.result c.args.at c.args.out.now c.args.kind c.from-number.ensures c.requires.0 c.requires.1 c.loop-i.i c.loop-i.place c.loop-i.out c.loop-i.invariant c.loop-i-test.true, c.requires.0.some_words)

pub overflow_add-out-then-marks-i : goal.overflow_add-out-then-marks-i
overflow_add-out-then-marks-i c = omega (arith, place-room c.args.s c.args.marks.now c.args.t.now c.from-number.result c.args.at c.args.out.now c.args.kind c.from-number.ensures c.requires.0 c.requires.1 c.loop-i.i c.loop-i.place c.loop-i.out c.loop-i.invariant c.loop-i-test.true c.if-marks-i.true)

pub offset_bounds-out-word-then-marks-i : goal.offset_bounds-out-word-then-marks-i
offset_bounds-out-word-then-marks-i c = omega (arith, place-room c.args.s c.args.marks.now c.args.t.now c.from-number.result c.args.at c.args.out.now c.args.kind c.from-number.ensures c.requires.0 c.requires.1 c.loop-i.i c.loop-i.place c.loop-i.out c.loop-i.invariant c.loop-i-test.true c.if-marks-i.true)

pub bounds-out-word-then-marks-i : goal.bounds-out-word-then-marks-i
bounds-out-word-then-marks-i c = simp length-set (omega (arith, place-room c.args.s c.args.marks.now c.args.t.now c.from-number.result c.args.at c.args.out.now c.args.kind c.from-number.ensures c.requires.0 c.requires.1 c.loop-i.i c.loop-i.place c.loop-i.out c.loop-i.invariant c.loop-i-test.true c.if-marks-i.true, listing-long c.args.s c.args.marks.now c.args.t.now c.from-number.result c.args.at c.args.out.now c.args.kind c.from-number.ensures c.requires.0 c.requires.1 c.loop-i.i c.loop-i.place c.loop-i.out c.loop-i.invariant c.loop-i-test.true c.if-marks-i.true))

pub overflow_add-place : goal.overflow_add-place
overflow_add-place c = omega (arith, place-room c.args.s c.args.marks.now c.args.t.now c.from-number.result c.args.at c.args.out.now c.args.kind c.from-number.ensures c.requires.0 c.requires.1 c.loop-i.i c.loop-i.place c.loop-i.out c.loop-i.invariant c.loop-i-test.true c.if-marks-i.true)

pub loop-i-preserved : goal.loop-i-preserved
loop-i-preserved c =
    elim c.if-marks-i.branch [
      | goal.then-marks-i s ↦ listing-one c.args.s c.args.marks.now c.args.t.now c.from-number.result c.args.at c.args.out.now c.args.kind c.from-number.ensures c.requires.0 c.requires.1 c.loop-i.i c.loop-i.place c.loop-i.out c.loop-i.invariant c.loop-i-test.true s.if-marks-i.true c.if-marks-i.place c.if-marks-i.out s.place-is s.out-is
      | goal.else-marks-i s ↦ listing_none c.args.s c.args.marks.now c.args.t.now c.from-number.result c.args.at c.args.out.now c.args.kind c.from-number.ensures c.requires.0 c.requires.1 c.loop-i.i c.loop-i.place c.loop-i.out c.loop-i.invariant c.loop-i-test.true s.if-marks-i.false c.if-marks-i.place c.if-marks-i.out s.place-is s.out-is
    ]

pub shape_of-out : goal.shape_of-out
shape_of-out c = listing-whole c.args.s c.args.marks.now c.args.t.now c.from-number.result c.args.at c.args.out.now c.args.kind c.from-number.ensures c.requires.0 c.requires.1 c.loop-i.i c.loop-i.place c.loop-i.out c.loop-i.invariant c.loop-i-test.false

pub returns : goal.returns
returns c = listing-ends c.args.s c.args.marks.now c.args.t.now c.from-number.result c.args.at c.args.out.now c.args.kind c.from-number.ensures c.requires.0 c.requires.1 c.loop-i.i c.loop-i.place c.loop-i.out c.loop-i.invariant c.loop-i-test.false
