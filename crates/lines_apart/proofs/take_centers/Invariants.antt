-- `lines_apart::take_centers` meets its contract. The invariant: what the lanes' centrelines find and mark is what those from lane i on do, from the marks as they are.
-- The measure is how many lanes are left. Assumes nothing.
use Prim.Native.Nat.{◌-◌, ◌*◌, ◌≤◌}
use lib.ListN.{drop}
use Rattle.lists.specs.Rows.{reads}
use Rattle.tables.specs.View.{rows}
use Rattle.tables.specs.Formed.{center_span}
use Rattle.apart.proofs.Marks.{joined}
use Rattle.apart.proofs.Walk.{Left}
use Rattle.lines_apart.proofs.take_centers.Given as goal

abbrev pub invariant-loop-i : goal.invariant-loop-i
invariant-loop-i l = (l.i ≤ l.n) × Left l.initial.marks (joined (rows 52 center_span l.t)) l.marks (joined (reads 52 center_span (l.n - l.i) (drop (l.i * 52) (drop 1 l.t))))
