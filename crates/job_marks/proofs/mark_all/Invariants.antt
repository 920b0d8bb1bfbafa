-- `job_marks::mark_all` meets its contract: what is left of the list, over the marks now, gives the whole. Assumes nothing.
use Rattle.lent.specs.Lent.{view_rows}
use Rattle.job_marks.proofs.Turns.{Marking}
use Rattle.job_marks.proofs.mark_all.Given as goal

abbrev pub invariant-loop-i : goal.invariant-loop-i
invariant-loop-i l = Marking (view_rows l.old) l.n l.modified l.initial.marks l.marks l.i
