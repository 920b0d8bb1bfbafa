-- `room::lists_fit` meets its contract. Assumes nothing.
use borrow.Author.Rules.{rules}
use Rattle.room.proofs.lists_fit.Goals as goal

pub returns : goal.returns
returns c = rw (c.both-3.ensures, c.both-2.ensures, c.both.ensures)
