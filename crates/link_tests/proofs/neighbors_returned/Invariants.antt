-- `link_tests::neighbors_returned` meets its contract. The invariant: every row passes where those from i on do. Assumes nothing.
use mathlib.Core.Path.{◌≡◌}
use Prim.Native.Nat.{◌≤◌}
use Rattle.row_tests.specs.Good.{all_rows}
use Rattle.row_tests.specs.Returned.{slots_returned}
use Rattle.row_tests.proofs.Tables.{rest_rows}
use Rattle.link_tests.proofs.neighbors_returned.Given as goal

abbrev pub invariant-loop-i : goal.invariant-loop-i
invariant-loop-i l = (l.i ≤ l.n) × (all_rows 52 (slots_returned l.t) l.t ≡ rest_rows 52 (slots_returned l.t) l.t l.i)
