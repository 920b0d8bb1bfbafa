-- `split_lanes::put_halves` meets its contract: the invariant says that the second halves of the marked lanes before row i stand behind the last row. Assumes nothing.
use native.Mathlib.Omega.{arith}
use Prim.Native.Nat.{◌-◌}
use mathlib.Core.Logic.{⊎_elim}
use mathlib.Core.Path.{◌∙◌, ap}
use lib.ListN.{length}
use Rattle.row_tests.proofs.Tables.{table-room, table-few}
use Rattle.split_tables.proofs.Halving.{Halving, halving_none, seen-there, halving_skip, halving_few, halving_asks, halving_turn, halving_all}
use Rattle.split_lanes.proofs.put_halves.Given as goal

abbrev pub invariant-loop-i : goal.invariant-loop-i
invariant-loop-i l = Halving l.pieces l.m l.cut l.next l.centers l.seen l.initial.t l.t l.rank l.i
