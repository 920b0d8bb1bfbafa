-- `apart::unmarked` meets its contract. The invariant: no point of the line is marked where none from the i-th on is. Assumes nothing.
use mathlib.Core.Path.{◌≡◌}
use mathlib.Core.Bool.{not}
use Prim.Native.Nat.{◌≤◌}
use lib.ListN.{take, drop}
use Rattle.lists.specs.Every.{all}
use Rattle.apart.specs.Marks.{unmarked}
use Rattle.apart.proofs.unmarked.Given as goal

abbrev pub invariant-loop-i : goal.invariant-loop-i
invariant-loop-i l = (l.i ≤ l.size) × (unmarked l.marks (record { start = l.start; size = l.size }) ≡ all not (drop l.i (take l.size (drop l.start l.marks))))
