-- `rows_pass`: each row before i passed the test. Assumes nothing.
use Rattle.std.proofs.Common.{ℕ, ◌<◌, true}
use Rattle.std.specs.Fn.{FnReturnsAt}
use Rattle.table_tests.specs.Rows.{row_at}
use Rattle.table_tests.proofs.rows_pass.Given as goal

abbrev pub invariant-loop-i : goal.invariant-loop-i
invariant-loop-i g l = (k : ℕ) → k < l.i → FnReturnsAt g.F.Fn l.test (row_at l.row l.t k) true
