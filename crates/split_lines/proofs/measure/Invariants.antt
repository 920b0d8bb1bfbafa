-- `split_lines::measure` meets its contract. The invariant: the lines of the chosen rows before row i are measured. Assumes nothing.
use mathlib.Core.Logic.{⊎_elim}
use Prim.Native.Nat.{◌-◌, ◌≤◌}
use native.Mathlib.Omega.{arith}
use Rattle.tables.specs.View.{word}
use Rattle.split_lines.proofs.Listed.{table-there, table-small, row_small, stored_here, Listed, list-begins, list-skip, list-room, list-more, list-ends}
use Rattle.split_lines.proofs.measure.Given as goal

abbrev pub invariant-loop-i : goal.invariant-loop-i
invariant-loop-i l = (l.i ≤ word 0 l.t) × Listed l.coordinates l.stride l.offset l.marked l.chosen l.t l.point l.from l.initial.out l.i l.m l.at l.out
