-- `follows::rule_differs` meets its contract: each return by the tests that led there. Assumes nothing.
use borrow.Author.Rules.{rules}
use Rattle.follows.proofs.Differs.{row-own, row_other, row-priority, row-yielding, own-may, priority-asks, yielding-asks}
use Rattle.follows.proofs.rule_differs.Goals as goal

pub own_differ-requires : goal.own_differ-requires
own_differ-requires c = own-may c.args.row.now c.requires.1.0 c.requires.1.1.0 c.args.past.now c.requires.1.1.1

pub returns-then-own_differ : goal.returns-then-own_differ
returns-then-own_differ c = row-own c.args.anchored c.args.past.now c.args.cut.now c.args.row.now c.own_differ.result c.own_differ.ensures c.if-own_differ.true

pub returns-then-row-ne-RIGHT_OF_WAY : goal.returns-then-row-ne-RIGHT_OF_WAY
returns-then-row-ne-RIGHT_OF_WAY c = row_other c.args.anchored c.args.past.now c.args.cut.now c.args.row.now c.own_differ.result c.own_differ.ensures c.if-own_differ.false c.if-row-ne-RIGHT_OF_WAY.true

pub list_differs-requires : goal.list_differs-requires
list_differs-requires c = priority-asks c.args.row.now c.requires.1.0 c.requires.1.1.0 c.args.cut.now c.requires.0 c.if-row-ne-RIGHT_OF_WAY.false

pub returns-then-list_differs : goal.returns-then-list_differs
returns-then-list_differs c = row-priority c.args.anchored c.args.past.now c.args.cut.now c.args.row.now c.own_differ.result c.own_differ.ensures c.if-own_differ.false c.if-row-ne-RIGHT_OF_WAY.false c.list_differs.result c.list_differs.ensures c.if-list_differs.true

pub list_differs-requires-2 : goal.list_differs-requires-2
list_differs-requires-2 c = yielding-asks c.args.row.now c.requires.1.0 c.requires.1.1.0 c.args.cut.now c.requires.0 c.if-row-ne-RIGHT_OF_WAY.false

pub returns : goal.returns
returns c = row-yielding c.args.anchored c.args.past.now c.args.cut.now c.args.row.now c.own_differ.result c.own_differ.ensures c.if-own_differ.false c.if-row-ne-RIGHT_OF_WAY.false c.list_differs.result c.list_differs.ensures c.if-list_differs.false c.list_differs-2.result c.list_differs-2.ensures
