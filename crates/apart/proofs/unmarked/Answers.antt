-- `apart::unmarked` meets its contract. The invariant: no point of the line is marked where none from the i-th on is.
use mathlib.Core.Path.{refl, sym, ◌∙◌}
use native.Mathlib.Omega.{arith}
use Rattle.apart.specs.Marks.{unmarked}
use Rattle.apart.proofs.Marks.{points-step, points-end}
use Rattle.apart.proofs.unmarked.Goals as goal

pub loop-i-init : goal.loop-i-init
unfolding unmarked
loop-i-init c = (omega arith, refl)

pub returns-then-marks-start : goal.returns-then-marks-start
unfolding unmarked
returns-then-marks-start c = sym (c.loop-i.invariant.1 ∙ points-step c.args.marks.now c.args.start c.args.size c.loop-i.i c.requires c.loop-i-test.true ∙ rw c.if-marks-start.true)

pub loop-i-preserved : goal.loop-i-preserved
unfolding unmarked
loop-i-preserved c = (omega arith, c.loop-i.invariant.1 ∙ points-step c.args.marks.now c.args.start c.args.size c.loop-i.i c.requires c.loop-i-test.true ∙ rw c.if-marks-start.false)

pub returns : goal.returns
unfolding unmarked
returns c = sym (c.loop-i.invariant.1 ∙ points-end c.args.marks.now c.args.start c.args.size c.loop-i.i c.requires c.loop-i-test.false)
