-- `split_marks::mark_rows` meets its contract. The invariant: the marks before row i are written. Assumes nothing.
use mathlib.Core.Path.{◌∙◌}
use native.Mathlib.Omega.{arith}
use Rattle.split_marks.specs.Touched.{names_cut}
use Rattle.split_marks.proofs.Marks.{test-begins, test-more, test-ends, table-there, row-there, row_list, row_named}
use Rattle.split_marks.proofs.mark_rows.Goals as goal

pub bounds-t-0 : goal.bounds-t-0
bounds-t-0 c = let a = c.args in omega (arith, table-there a.s a.k 64 4096 a.cut.now a.t.now a.marks.now c.requires)

pub loop-i-init : goal.loop-i-init
loop-i-init c = let a = c.args in (omega arith, test-begins a.s (names_cut a.cut.now a.k) a.t.now a.marks.now)

pub overflow_mul-i : goal.overflow_mul-i
overflow_mul-i c = let a = c.args in let t = c.loop-i in let l = c.loop-i-test.true in omega (arith, row-there a.s a.k 64 4096 a.cut.now a.t.now a.marks.now c.requires t.i l)

pub row_names-requires : goal.row_names-requires
row_names-requires c = let a = c.args in let t = c.loop-i in let l = c.loop-i-test.true in (c.requires.ascend, row_list a.s a.k 64 4096 a.cut.now a.t.now a.marks.now c.requires t.i l)

pub bounds-marks-i : goal.bounds-marks-i
bounds-marks-i c = let a = c.args in let t = c.loop-i in let l = c.loop-i-test.true in omega (arith, t.invariant.1.same, c.requires.room, l)

pub loop-i-preserved : goal.loop-i-preserved
loop-i-preserved c = let a = c.args in let t = c.loop-i in let l = c.loop-i-test.true in (omega (arith, l), test-more a.s (names_cut a.cut.now a.k) a.t.now a.marks.now t.i t.marks t.invariant.1 l c.requires.room c.row_names.result (c.row_names.ensures ∙ row_named a.s a.k 64 4096 a.cut.now a.t.now a.marks.now c.requires t.i l))

pub shape_of-marks : goal.shape_of-marks
shape_of-marks c = c.loop-i.invariant.1.same

pub returns : goal.returns
returns c = let a = c.args in let t = c.loop-i in test-ends a.s (names_cut a.cut.now a.k) a.t.now a.marks.now t.i t.marks t.invariant.1 c.loop-i-test.false
