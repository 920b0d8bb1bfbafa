-- `split_room::lists_fit` meets its contract. The invariant: the lists of the rows before number i have places, so all have where those from there on have.
-- Assumes nothing.
use mathlib.Core.Path.{◌≡◌}
use Prim.Native.Nat.{◌≤◌}
use Rattle.tables.specs.View.{word}
use Rattle.row_tests.specs.Good.{all_rows}
use Rattle.row_tests.proofs.Tables.{rest_rows}
use Rattle.split_room.specs.Fitting.{list_fits}
use Rattle.split_room.proofs.lists_fit.Given as goal

abbrev pub invariant-loop-i : goal.invariant-loop-i
invariant-loop-i l = (l.i ≤ word 0 l.t) × (all_rows l.s (list_fits l.cut l.k) l.t ≡ rest_rows l.s (list_fits l.cut l.k) l.t l.i)
