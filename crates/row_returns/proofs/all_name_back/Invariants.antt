-- `row_returns::all_name_back` meets its contract. The invariant: every id passes where those from i on do. Assumes nothing.
use mathlib.Core.Path.{◌≡◌}
use Prim.Native.Nat.{◌≤◌}
use lib.ListN.{length, drop}
use Rattle.lists.specs.Every.{all}
use Rattle.row_tests.specs.Returned.{names_back}
use Rattle.row_returns.proofs.all_name_back.Given as goal

abbrev pub invariant-loop-i : goal.invariant-loop-i
invariant-loop-i l = (l.i ≤ length l.ids) × (all (names_back l.t l.k l.id) l.ids ≡ all (names_back l.t l.k l.id) (drop l.i l.ids))
