-- `edit::links::link_unless` meets its contract. Assumes nothing.
use borrow.Author.Rules.{rules}
use Rattle.relink.proofs.Linking.{link_open, link-there}
use Rattle.relink.proofs.links.link_unless.Goals as goal

pub returns-then-linked : goal.returns-then-linked
returns-then-linked c = link-there c.args.lanes.now c.args.i c.args.j c.args.linked c.requires.0 c.if-linked.true

pub add_link-requires : goal.add_link-requires
add_link-requires c = link_open c.args.lanes.now c.args.i c.args.j c.args.linked c.requires.0 c.requires.1 c.if-linked.false
