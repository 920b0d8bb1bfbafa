-- `split_marks::mark_alone` meets its contract. The invariant: the marks before row i are written. Assumes nothing.
use native.Mathlib.Omega.{arith}
use Rattle.split_marks.proofs.Marks.{alone-begins, alone-room, alone-cut, alone-left}
use Rattle.split_marks.proofs.mark_alone.Goals as goal
use Rattle.split_marks.proofs.mark_alone.Goals.{then-is_cut, else-is_cut}

pub loop-i-init : goal.loop-i-init
loop-i-init c = let a = c.args in alone-begins a.cut.now a.pieces.now a.marks.now

pub overflow_mul-at : goal.overflow_mul-at
overflow_mul-at c = let a = c.args in let t = c.loop-i in omega (arith, alone-room a.cut.now a.pieces.now a.marks.now c.requires.0 t.j t.i t.marks t.invariant c.loop-i-test.true c.requires.1 c.if-is_cut.true)

pub overflow_add-marks : goal.overflow_add-marks
overflow_add-marks c = let a = c.args in let t = c.loop-i in omega (arith, alone-room a.cut.now a.pieces.now a.marks.now c.requires.0 t.j t.i t.marks t.invariant c.loop-i-test.true c.requires.1 c.if-is_cut.true)

pub offset_bounds-pieces-at : goal.offset_bounds-pieces-at
offset_bounds-pieces-at c = let a = c.args in let t = c.loop-i in omega (arith, alone-room a.cut.now a.pieces.now a.marks.now c.requires.0 t.j t.i t.marks t.invariant c.loop-i-test.true c.requires.1 c.if-is_cut.true)

pub bounds-pieces-at : goal.bounds-pieces-at
bounds-pieces-at c = let a = c.args in let t = c.loop-i in omega (arith, alone-room a.cut.now a.pieces.now a.marks.now c.requires.0 t.j t.i t.marks t.invariant c.loop-i-test.true c.requires.1 c.if-is_cut.true)

pub offset_bounds-pieces-at-then-is_cut : goal.offset_bounds-pieces-at-then-is_cut
offset_bounds-pieces-at-then-is_cut c = let a = c.args in let t = c.loop-i in omega (arith, alone-room a.cut.now a.pieces.now a.marks.now c.requires.0 t.j t.i t.marks t.invariant c.loop-i-test.true c.requires.1 c.if-is_cut.true)

pub bounds-pieces-at-then-is_cut : goal.bounds-pieces-at-then-is_cut
bounds-pieces-at-then-is_cut c = let a = c.args in let t = c.loop-i in omega (arith, alone-room a.cut.now a.pieces.now a.marks.now c.requires.0 t.j t.i t.marks t.invariant c.loop-i-test.true c.requires.1 c.if-is_cut.true)

pub loop-i-preserved : goal.loop-i-preserved
loop-i-preserved c =
    let a = c.args in let t = c.loop-i in
    elim c.if-is_cut.branch [
      | then-is_cut s ↦ rw (s.marks-is, s.j-is) (alone-cut a.cut.now a.pieces.now a.marks.now c.requires.0 t.j t.i t.marks t.invariant c.loop-i-test.true s.if-is_cut.true)
      | else-is_cut s ↦ rw (s.marks-is, s.j-is) (alone-left a.cut.now a.pieces.now a.marks.now c.requires.0 t.j t.i t.marks t.invariant c.loop-i-test.true s.if-is_cut.false)
    ]
