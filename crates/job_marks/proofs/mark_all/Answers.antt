-- `job_marks::mark_all` meets its contract: what is left of the list, over the marks now, gives the whole. Assumes nothing.
use mathlib.Core.Path.{◌∙◌}
use native.Mathlib.Omega.{arith}
use Rattle.lent.specs.Lent.{view_rows}
use Rattle.job_marks.proofs.Turns.{marking_begins, marking-turns, marking-ends}
use Rattle.job_marks.proofs.mark_all.Goals as goal

pub loop-i-init : goal.loop-i-init
loop-i-init c = marking_begins (view_rows c.args.old) c.args.n c.args.modified.now c.args.marks.now

pub overflow_mul-kind : goal.overflow_mul-kind
overflow_mul-kind c = omega (arith, c.loop-i-test.true, c.requires.1.1)

pub offset_bounds-modified-i : goal.offset_bounds-modified-i
offset_bounds-modified-i c = omega (arith, c.loop-i-test.true, c.requires.1.1)

pub bounds-modified-i : goal.bounds-modified-i
bounds-modified-i c = omega (arith, c.loop-i-test.true, c.requires.1.1)

pub overflow_mul-id : goal.overflow_mul-id
overflow_mul-id c = omega (arith, c.loop-i-test.true, c.requires.1.1)

pub overflow_add-id : goal.overflow_add-id
overflow_add-id c = omega (arith, c.loop-i-test.true, c.requires.1.1)

pub offset_bounds-modified-i-in-loop-i : goal.offset_bounds-modified-i-in-loop-i
offset_bounds-modified-i-in-loop-i c = omega (arith, c.loop-i-test.true, c.requires.1.1)

pub bounds-modified-i-in-loop-i : goal.bounds-modified-i-in-loop-i
bounds-modified-i-in-loop-i c = omega (arith, c.loop-i-test.true, c.requires.1.1)

pub mark_one-requires : goal.mark_one-requires
mark_one-requires c = (c.requires.0, c.loop-i.invariant.many ∙ c.requires.1.0)

pub loop-i-preserved : goal.loop-i-preserved
loop-i-preserved c =
    let l = c.loop-i in
    marking-turns (view_rows c.args.old) c.args.n c.args.modified.now c.args.marks.now l.marks l.i l.invariant c.loop-i-test.true c.mark_one.new.marks c.mark_one.ensures

pub shape_of-marks : goal.shape_of-marks
shape_of-marks c = c.loop-i.invariant.many

pub returns : goal.returns
returns c =
    let l = c.loop-i in
    marking-ends (view_rows c.args.old) c.args.n c.args.modified.now c.args.marks.now l.marks l.i l.invariant c.loop-i-test.false
