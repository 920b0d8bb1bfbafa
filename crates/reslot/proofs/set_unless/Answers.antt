-- `slots::set_unless` meets its contract. Assumes nothing.
use borrow.Author.Rules.{rules}
use Rattle.reslot.proofs.Reslot.{unless}
use Rattle.reslot.proofs.set_unless.Goals as goal

pub returns : goal.returns
returns c =
    unless c.args.set c.args.lanes.now c.if-set.false c.set_neighbor.ensures
