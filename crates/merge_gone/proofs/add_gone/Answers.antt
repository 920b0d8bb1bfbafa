-- `merge_gone::add_gone` meets its contract. Assumes nothing.
use borrow.Author.Rules.{rules}
use Rattle.merge_gone.specs.Leaving.{goes}
use Rattle.merge_gone.proofs.Going.{gone-added, gone-kept}
use Rattle.merge_gone.proofs.add_gone.Goals as goal

pub returns-then-goes : goal.returns-then-goes
returns-then-goes c =
    let a = c.args in
    gone-added a.out.now a.n a.id c.requires.1.0 c.goes.result (goes a.lanes.now a.i a.j a.left a.right a.boundaries.now a.id) c.goes.ensures c.if-goes.true c.named.new.ids c.named.result c.named.ensures

pub returns : goal.returns
returns c =
    let a = c.args in
    gone-kept a.out.now a.n a.id c.requires.1.0 c.goes.result (goes a.lanes.now a.i a.j a.left a.right a.boundaries.now a.id) c.goes.ensures c.if-goes.false
