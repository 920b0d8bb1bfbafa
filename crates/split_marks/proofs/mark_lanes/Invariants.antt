-- `split_marks::mark_lanes` meets its contract. The invariant: the marks before row i are written. Assumes nothing.
use Prim.Native.Nat.{◌≤◌}
use Rattle.tables.specs.View.{word}
use Rattle.split_marks.specs.Touched.{lane_touched}
use Rattle.split_marks.proofs.Marks.{Tested}
use Rattle.split_marks.proofs.mark_lanes.Given as goal

abbrev pub invariant-loop-i : goal.invariant-loop-i
invariant-loop-i l = (l.i ≤ word 0 l.t) × Tested 52 (lane_touched l.cut) l.t l.initial.marks l.i l.marks
