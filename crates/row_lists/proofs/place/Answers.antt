-- `row_lists::place` meets its contract: an id that stands in the list changes nothing, and one that does not makes it one longer. Assumes nothing.
use borrow.Author.Rules.{rules}
use Rattle.store.proofs.Lists.{placed-old, place-room, place-may, placed-new}
use Rattle.row_lists.proofs.place.Goals as goal

pub returns-then-contains : goal.returns-then-contains
returns-then-contains c =
    let s = c in
    placed-old s.args.row.now s.args.k s.requires.0 s.args.id s.requires.1.0 c.contains.result c.contains.ensures c.if-contains.true

pub insert-requires : goal.insert-requires
insert-requires c =
    let s = c in
    place-may s.args.row.now s.args.k s.requires.0 s.args.id s.requires.1.0 c.contains.result c.contains.ensures c.if-contains.false s.requires.1.1

pub returns : goal.returns
returns c =
    let s = c in
    placed-new s.args.row.now s.args.k s.requires.0 s.args.id s.requires.1.0 c.contains.result c.contains.ensures c.if-contains.false s.requires.1.1 c.insert.new.slots c.insert.ensures
