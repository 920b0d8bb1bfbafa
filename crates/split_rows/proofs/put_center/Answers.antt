-- `split_rows::put_center` meets its contract: two stores, or none. Assumes nothing.
use borrow.Author.Rules.{rules}
use Rattle.split_rows.proofs.Rows.{center_put}
use Rattle.split_rows.proofs.put_center.Goals as goal

pub returns-then-on : goal.returns-then-on
returns-then-on c = center_put c.args.row.now c.args.on c.args.start c.args.size c.requires c.if-on.true
