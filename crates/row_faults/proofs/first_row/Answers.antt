-- `row_faults::first_row` meets its contract. The invariant: the first row that fails is the first from i on, whatever the tests. Assumes nothing.
use Rattle.std.proofs.Common.{◌≡◌, ◌∙◌, sym, ap, not, arith}
use borrow.Author.Tests.{not-true, not-false}
use Rattle.row_faults.proofs.First.{first-begins, first-goes-on, first_stops, first_ends}
use Rattle.row_faults.proofs.first_row.Goals as goal

pub loop-i-init : goal.loop-i-init
loop-i-init g c = (omega arith, λ tests many tells. first-begins tests)

pub returns-then-not-test : goal.returns-then-not-test
returns-then-not-test g c tests many tells =
    let i = c.loop-i.i in
    let k = c.loop-i-test.true in
    first_stops tests i (c.loop-i.invariant.1 tests many tells) (omega (arith, many, k)) (sym (tells i c.test.result k c.test.ensures) ∙ not-true c.test.result (ap not c.if-not-test.true))

pub loop-i-preserved : goal.loop-i-preserved
loop-i-preserved g c = (
  omega (arith, c.loop-i-test.true),
  λ tests many tells.
      let i = c.loop-i.i in
      let k = c.loop-i-test.true in
      first-goes-on tests i (c.loop-i.invariant.1 tests many tells) (omega (arith, many, k)) (sym (tells i c.test.result k c.test.ensures) ∙ not-false c.test.result (ap not c.if-not-test.false)),
)

pub returns : goal.returns
returns g c tests many tells =
    let i = c.loop-i.i in
    let last : c.args.n ≡ i = omega (arith, c.loop-i.invariant.0, c.loop-i-test.false) in
    last ∙ first_ends tests i (c.loop-i.invariant.1 tests many tells) (omega (arith, many, c.loop-i-test.false))
