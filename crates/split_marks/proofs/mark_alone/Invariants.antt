-- `split_marks::mark_alone` meets its contract. The invariant: the marks before row i are written. Assumes nothing.
use Rattle.split_marks.proofs.Marks.{Alone}
use Rattle.split_marks.proofs.mark_alone.Given as goal

abbrev pub invariant-loop-i : goal.invariant-loop-i
invariant-loop-i l = Alone l.cut l.pieces l.initial.marks l.j l.i l.marks
