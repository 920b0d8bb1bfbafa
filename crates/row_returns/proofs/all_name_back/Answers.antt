-- `row_returns::all_name_back` meets its contract. The invariant: every id passes where those from i on do. Assumes nothing.
use mathlib.Core.Bool.{not}
use borrow.Author.Tests.{not-true, not-false}
use mathlib.Core.Path.{refl, sym, ◌∙◌, ap}
use native.Mathlib.Omega.{arith}
use Rattle.lists.proofs.Every.{all-step, all_end}
use Rattle.row_tests.specs.Returned.{names_back}
use Rattle.row_returns.proofs.all_name_back.Goals as goal

pub loop-i-init : goal.loop-i-init
loop-i-init c = (omega arith, refl)

pub offset_bounds-ids-i : goal.offset_bounds-ids-i
offset_bounds-ids-i c = omega arith

pub bounds-ids-i : goal.bounds-ids-i
bounds-ids-i c = omega arith

pub names_back-requires : goal.names_back-requires
names_back-requires c = c.requires

pub loop-i-preserved : goal.loop-i-preserved
loop-i-preserved c = (omega arith, c.loop-i.invariant.1 ∙ all-step (names_back c.args.t.now c.args.k c.args.id) c.args.ids.now c.loop-i.i 0 c.loop-i-test.true ∙ rw (← c.names_back.ensures, (not-false c.names_back.result (ap not c.if-not-names_back.false))))

pub returns-then-not-names_back : goal.returns-then-not-names_back
returns-then-not-names_back c = sym (c.loop-i.invariant.1 ∙ all-step (names_back c.args.t.now c.args.k c.args.id) c.args.ids.now c.loop-i.i 0 c.loop-i-test.true ∙ rw (← c.names_back.ensures, (not-true c.names_back.result (ap not c.if-not-names_back.true))))

pub returns : goal.returns
returns c = sym (c.loop-i.invariant.1 ∙ all_end (names_back c.args.t.now c.args.k c.args.id) c.args.ids.now c.loop-i.i c.loop-i-test.false)
