-- `row_lists::forget` meets its contract. Assumes nothing.
use borrow.Author.Rules.{rules}
use Rattle.store.proofs.Lists.{list-without}
use Rattle.row_lists.proofs.forget.Goals as goal

pub returns : goal.returns
returns c = list-without c.args.row.now c.remove-left.new.slots c.args.k c.args.id c.remove-left.result c.requires c.remove-left.ensures.0 c.remove-left.ensures.1
