-- `split_lines::draw` meets its contract. The invariant: the lines of the chosen rows before row i are drawn. Assumes nothing.
use mathlib.Core.Logic.{⊎_elim}
use Prim.Native.Nat.{◌-◌, ◌≤◌}
use native.Mathlib.Omega.{arith}
use Rattle.tables.specs.View.{word}
use Rattle.split_lines.proofs.Listed.{table-there, table-small, row_small, stored_here, Drawn, draw_begins, draw_skip, draw_room, draw_more, draw_ends}
use Rattle.split_lines.proofs.draw.Given as goal

abbrev pub invariant-loop-i : goal.invariant-loop-i
invariant-loop-i l = (l.i ≤ word 0 l.t) × Drawn l.coordinates l.stride l.offset l.marked l.chosen l.t l.point l.from l.initial.out l.i l.at l.out
