-- `lines_apart::take_column` meets its contract. The invariant: what the column's lines find and mark is what those from row i on do, from the marks as they are.
-- The measure is how many rows are left. Assumes nothing.
use Prim.Native.Nat.{◌-◌, ◌*◌, ◌≤◌}
use lib.ListN.{drop}
use Rattle.lists.specs.Rows.{reads}
use Rattle.tables.specs.View.{rows}
use Rattle.tables.specs.Formed.{span_at}
use Rattle.apart.proofs.Walk.{Left}
use Rattle.lines_apart.proofs.take_column.Given as goal

abbrev pub invariant-loop-i : goal.invariant-loop-i
invariant-loop-i l = (l.i ≤ l.n) × Left l.initial.marks (rows l.row (span_at l.k) l.t) l.marks (reads l.row (span_at l.k) (l.n - l.i) (drop (l.i * l.row) (drop 1 l.t)))
