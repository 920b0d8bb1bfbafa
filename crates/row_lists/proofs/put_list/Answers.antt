-- `row_lists::put_list` meets its contract. Assumes nothing.
use borrow.Author.Rules.{rules}
use Rattle.store.proofs.Lists.{list_copied}
use Rattle.row_lists.proofs.put_list.Goals as goal

pub returns : goal.returns
returns c =
    let s = c in
    list_copied s.args.row.now s.args.ids.now s.args.k s.requires c.copy.new.to c.copy.ensures
