-- `row_faults::first_row` meets its contract. The invariant: the first row that fails is the first from i on, whatever the tests. Assumes nothing.
use Rattle.std.proofs.Common.{ℕ, Bool, true, ◌≡◌, ◌+◌, ◌≤◌, ◌<◌, List, length, drop, get_or}
use Rattle.row_faults.specs.First.{first_false}
use Rattle.row_faults.proofs.first_row.Given as goal

abbrev pub invariant-loop-i : goal.invariant-loop-i
invariant-loop-i g l =
    (l.i ≤ l.n)
    × ((tests : List Bool) → length tests ≡ l.n → ((i : ℕ) (b : Bool) → i < l.n → g.F.Fn.post l.test (i, tt) b → b ≡ get_or tests i true) → first_false tests ≡ l.i + first_false (drop l.i tests))
