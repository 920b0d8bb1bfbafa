-- `merge_rows::taken_of` meets its contract. Assumes nothing.
use borrow.Author.Rules.{rules}
use Rattle.merge_rows.proofs.taken_of.Goals as goal

pub returns : goal.returns
returns c = cc
