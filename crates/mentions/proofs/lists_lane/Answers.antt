-- `naming::lists_lane` meets its contract: the part lent is the list. Assumes nothing.
use borrow.Author.Rules.{rules}
use Rattle.mentions.proofs.Tests.{has-lent}
use Rattle.mentions.proofs.lists_lane.Goals as goal

pub returns : goal.returns
returns c = has-lent c.args.row.now c.args.k c.args.id c.contains.result c.contains.ensures
