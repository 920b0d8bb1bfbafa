-- `row_returns::first_unreturned` meets its contract: the test of row i is the definition's. Assumes nothing.
use Rattle.std.proofs.Common.{◌≡◌, sym, ◌∙◌, ap, arith, rules}
use Rattle.tables.specs.View.{rows}
use Rattle.row_tests.specs.Returned.{lane_at}
use Rattle.row_tests.proofs.Lanes.{lanes-some, lane_row}
use Rattle.row_faults.proofs.First.{tests-length, test_at}
use Rattle.row_returns.specs.Returns.{named_back}
use Rattle.row_returns.proofs.first_unreturned.Goals as goal

pub bounds-t-0 : goal.bounds-t-0
bounds-t-0 c = omega (arith, lanes-some c.args.t.now c.requires)

pub returns : goal.returns
returns c =
    let a = c.args in
    let p = named_back a.clause a.t.now in
    c.first_row.ensures (rows 52 p a.t.now) (tests-length 52 p a.t.now)
    (λ i b k says.
    let e : b ≡ named_back a.clause a.t.now (lane_at a.t.now i) = search rules in
    e ∙ sym (test_at 52 p a.t.now i k ∙ ap p (lane_row a.t.now i)))
