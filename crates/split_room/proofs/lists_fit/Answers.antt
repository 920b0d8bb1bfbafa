-- `split_room::lists_fit` meets its contract. The invariant: the lists of the rows before number i have places, so all have where those from there on have.
-- Assumes nothing.
use mathlib.Core.Bool.{not}
use mathlib.Core.Path.{ap}
use native.Mathlib.Omega.{arith}
use Rattle.row_tests.proofs.Tables.{pass-begins, pass-goes-on, pass-stops, pass-ends}
use Rattle.split_room.specs.Fitting.{list_fits}
use Rattle.split_room.proofs.Places.{lists-some, lists-few, lists-room, list-asks, list-there, not-true, not-false}
use Rattle.split_room.proofs.lists_fit.Goals as goal

pub bounds-t-0 : goal.bounds-t-0
bounds-t-0 c = omega (arith, lists-some c.args.s c.args.k c.args.cut.now c.args.t.now c.requires)

pub loop-i-init : goal.loop-i-init
loop-i-init c = (omega arith, pass-begins c.args.s (list_fits c.args.cut.now c.args.k) c.args.t.now)

pub overflow_mul-i : goal.overflow_mul-i
overflow_mul-i c = omega (arith, lists-few c.args.s c.args.k c.args.cut.now c.args.t.now c.requires c.loop-i.i c.loop-i-test.true, lists-room c.args.s c.args.k c.args.cut.now c.args.t.now c.requires c.loop-i.i c.loop-i-test.true, c.requires.list)

pub overflow_add-i-in-loop-i : goal.overflow_add-i-in-loop-i
overflow_add-i-in-loop-i c = omega (arith, lists-few c.args.s c.args.k c.args.cut.now c.args.t.now c.requires c.loop-i.i c.loop-i-test.true, lists-room c.args.s c.args.k c.args.cut.now c.args.t.now c.requires c.loop-i.i c.loop-i-test.true, c.requires.list)

pub list_fits-requires : goal.list_fits-requires
list_fits-requires c = list-asks c.args.s c.args.k c.args.cut.now c.args.t.now c.requires c.loop-i.i c.loop-i-test.true

pub returns-then-not-list_fits : goal.returns-then-not-list_fits
returns-then-not-list_fits c = pass-stops c.args.s (list_fits c.args.cut.now c.args.k) c.args.t.now c.loop-i.i c.loop-i.invariant.1 c.list_fits.result c.loop-i-test.true (list-there c.args.s c.args.k c.args.cut.now c.args.t.now c.requires c.loop-i.i c.loop-i-test.true c.list_fits.result c.list_fits.ensures) (not-true c.list_fits.result (ap not c.if-not-list_fits.true))

pub loop-i-preserved : goal.loop-i-preserved
loop-i-preserved c = (omega (arith, c.loop-i-test.true), pass-goes-on c.args.s (list_fits c.args.cut.now c.args.k) c.args.t.now c.loop-i.i c.loop-i.invariant.1 c.list_fits.result c.loop-i-test.true (list-there c.args.s c.args.k c.args.cut.now c.args.t.now c.requires c.loop-i.i c.loop-i-test.true c.list_fits.result c.list_fits.ensures) (not-false c.list_fits.result (ap not c.if-not-list_fits.false)))

pub returns : goal.returns
returns c = pass-ends c.args.s (list_fits c.args.cut.now c.args.k) c.args.t.now c.loop-i.i c.loop-i.invariant.1 c.loop-i-test.false
