-- `apart::mark_line` meets its contract. The invariant: the line's first i points are marked, and nothing else has changed. Assumes nothing.
use mathlib.Core.Path.{◌≡◌}
use Prim.Native.Nat.{◌≤◌}
use lib.ListN.{length}
use Rattle.lists.specs.Rows.{over}
use Rattle.apart.specs.Marks.{trues}
use Rattle.apart.proofs.mark_line.Given as goal

abbrev pub invariant-loop-i : goal.invariant-loop-i
invariant-loop-i l = (l.i ≤ l.size) × ((length l.marks ≡ length l.initial.marks) × (l.marks ≡ over l.initial.marks l.start (trues l.i)))
