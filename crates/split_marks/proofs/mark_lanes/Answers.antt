-- `split_marks::mark_lanes` meets its contract. The invariant: the marks before row i are written. Assumes nothing.
use mathlib.Core.Path.{◌∙◌}
use native.Mathlib.Omega.{arith}
use Rattle.split_marks.specs.Touched.{lane_touched}
use Rattle.split_marks.proofs.Marks.{test-begins, test-more, test-ends, table-there, row-there, row_list, lane-named}
use Rattle.split_marks.proofs.mark_lanes.Goals as goal

pub bounds-t-0 : goal.bounds-t-0
bounds-t-0 c = let a = c.args in omega (arith, table-there 52 18 16 1024 a.cut.now a.t.now a.marks.now c.requires)

pub loop-i-init : goal.loop-i-init
loop-i-init c = let a = c.args in (omega arith, test-begins 52 (lane_touched a.cut.now) a.t.now a.marks.now)

pub overflow_mul-i : goal.overflow_mul-i
overflow_mul-i c = let a = c.args in let t = c.loop-i in let l = c.loop-i-test.true in omega (arith, row-there 52 18 16 1024 a.cut.now a.t.now a.marks.now c.requires t.i l)

pub lane_touched-requires : goal.lane_touched-requires
lane_touched-requires c = let a = c.args in let t = c.loop-i in let l = c.loop-i-test.true in (c.requires.ascend, row_list 52 18 16 1024 a.cut.now a.t.now a.marks.now c.requires t.i l)

pub bounds-marks-i : goal.bounds-marks-i
bounds-marks-i c = let a = c.args in let t = c.loop-i in let l = c.loop-i-test.true in omega (arith, t.invariant.1.same, c.requires.room, l)

pub loop-i-preserved : goal.loop-i-preserved
loop-i-preserved c = let a = c.args in let t = c.loop-i in let l = c.loop-i-test.true in (omega (arith, l), test-more 52 (lane_touched a.cut.now) a.t.now a.marks.now t.i t.marks t.invariant.1 l c.requires.room c.lane_touched.result (c.lane_touched.ensures ∙ lane-named 1024 a.cut.now a.t.now a.marks.now c.requires t.i l))

pub shape_of-marks : goal.shape_of-marks
shape_of-marks c = c.loop-i.invariant.1.same

pub returns : goal.returns
returns c = let a = c.args in let t = c.loop-i in test-ends 52 (lane_touched a.cut.now) a.t.now a.marks.now t.i t.marks t.invariant.1 c.loop-i-test.false
