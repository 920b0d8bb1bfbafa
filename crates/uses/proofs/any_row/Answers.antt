-- `uses::any_row` meets its contract: a row passes where one from i on does, whatever the test. Assumes nothing.
use native.Mathlib.Omega.{arith}
use Rattle.lookup.proofs.Laws.{sorted-room, any-begins, any-goes-on, any-stops, any-ends}
use Rattle.uses.proofs.any_row.Goals as goal

pub bounds-lanes-0 : goal.bounds-lanes-0
bounds-lanes-0 g c = omega (arith, sorted-room 1024 52 c.args.lanes.now c.requires.sorted)

pub loop-i-init : goal.loop-i-init
loop-i-init g c h tells = any-begins 52 h c.args.lanes.now

pub returns-then-test : goal.returns-then-test
returns-then-test g c h tells = any-stops 52 h c.args.lanes.now c.loop-i.i (c.loop-i.invariant h tells) c.test.result c.loop-i-test.true (tells c.loop-i.i c.test.result c.loop-i-test.true c.test.ensures) c.if-test.true

pub loop-i-preserved : goal.loop-i-preserved
loop-i-preserved g c h tells = any-goes-on 52 h c.args.lanes.now c.loop-i.i (c.loop-i.invariant h tells) c.test.result c.loop-i-test.true (tells c.loop-i.i c.test.result c.loop-i-test.true c.test.ensures) c.if-test.false

pub returns : goal.returns
returns g c h tells = any-ends 52 h c.args.lanes.now c.loop-i.i (c.loop-i.invariant h tells) c.loop-i-test.false
