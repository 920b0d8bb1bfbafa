-- `split_marks::mark_rows` meets its contract. The invariant: the marks before row i are written. Assumes nothing.
use Prim.Native.Nat.{◌≤◌}
use Rattle.tables.specs.View.{word}
use Rattle.split_marks.specs.Touched.{names_cut}
use Rattle.split_marks.proofs.Marks.{Tested}
use Rattle.split_marks.proofs.mark_rows.Given as goal

abbrev pub invariant-loop-i : goal.invariant-loop-i
invariant-loop-i l = (l.i ≤ word 0 l.t) × Tested l.s (names_cut l.cut l.k) l.t l.initial.marks l.i l.marks
