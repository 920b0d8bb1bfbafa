use native.Mathlib.Omega.{arith}
use Rattle.stream.proofs.Digests.{taken_in, all_in}
use Rattle.stream.proofs.digest.items.Goals as goal

pub loop-item-preserved : goal.loop-item-preserved
loop-item-preserved g c =
    (omega arith, taken_in g.T.Item.to_word _ _ _ _ c.loop-item.invariant.1 _ _ _ c.loop-item-test.true c.item-item.is c.to_word.ensures c.mix-state.ensures)

pub returns : goal.returns
returns g c = all_in g.T.Item.to_word _ _ _ _ c.loop-item.invariant.1 c.loop-item-test.false
