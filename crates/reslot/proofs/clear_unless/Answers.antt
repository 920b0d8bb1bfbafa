-- `slots::clear_unless` meets its contract. Assumes nothing.
use borrow.Author.Rules.{rules}
use Rattle.reslot.proofs.Reslot.{unless}
use Rattle.reslot.proofs.clear_unless.Goals as goal

pub returns : goal.returns
returns c =
    unless c.args.free c.args.lanes.now c.if-free.false c.clear_slot.ensures
