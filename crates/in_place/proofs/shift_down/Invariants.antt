-- `in_place::shift_down` meets its contract. The invariant: the first i floats are moved, and nothing else has changed. Assumes nothing.
use mathlib.Core.Path.{◌≡◌}
use Prim.Native.Nat.{◌≤◌}
use lib.ListN.{length, take, drop}
use Rattle.lists.specs.Rows.{over}
use Rattle.in_place.proofs.shift_down.Given as goal

abbrev pub invariant-loop-i : goal.invariant-loop-i
invariant-loop-i l = (l.i ≤ l.n) × ((length l.c ≡ length l.initial.c) × (l.c ≡ over l.initial.c l.at (take l.i (drop l.start l.initial.c))))
