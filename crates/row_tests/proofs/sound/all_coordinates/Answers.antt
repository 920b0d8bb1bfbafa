-- `row_tests::sound::all_coordinates` meets its contract. The invariant: all are within reach where those so far and those from here on are.
use mathlib.Core.Path.{refl}
use Rattle.row_tests.proofs.Reach.{reach-on, reach-done}
use Rattle.row_tests.proofs.sound.all_coordinates.Goals as goal

pub loop-x-init : goal.loop-x-init
loop-x-init c = refl

pub loop-x-preserved : goal.loop-x-preserved
loop-x-preserved c =
    let l = c.loop-x in
    reach-on c.args.line.now l.good l.x-index l.invariant _ c.coordinate.result c.both-good.result c.loop-x-test.true c.coordinate.ensures c.both-good.ensures

pub returns : goal.returns
returns c = let l = c.loop-x in reach-done c.args.line.now l.good l.x-index l.invariant c.loop-x-test.false
