-- `merge_gone::held` meets its contract. Assumes nothing.
use borrow.Author.Rules.{rules}
use Rattle.merge_gone.proofs.held.Goals as goal

pub returns : goal.returns
returns c = rw (c.either.ensures, c.both.ensures, c.both-2.ensures, c.is_fresh.ensures, c.is_fresh-2.ensures, c.boundary_ref-one.ensures, c.boundary_ref-two.ensures)
