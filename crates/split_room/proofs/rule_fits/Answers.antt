-- `split_room::rule_fits` meets its contract: each return by the tests that led there. Assumes nothing.
use mathlib.Core.Bool.{not}
use mathlib.Core.Path.{ap}
use Rattle.split_room.proofs.Places.{rule-crowded, rule-other, rule-both, priority-asks, yielding-asks}
use Rattle.split_room.proofs.rule_fits.Goals as goal

pub returns-then-not-own_fits : goal.returns-then-not-own_fits
returns-then-not-own_fits c = rule-crowded c.args.cut.now c.args.row.now c.requires.1.1.0 c.requires.1.0 c.args.anchored c.own_fits.result c.own_fits.ensures (ap not c.if-not-own_fits.true)

pub returns-then-row-ne-RIGHT_OF_WAY : goal.returns-then-row-ne-RIGHT_OF_WAY
returns-then-row-ne-RIGHT_OF_WAY c = rule-other c.args.cut.now c.args.row.now c.requires.1.1.0 c.requires.1.0 c.args.anchored c.own_fits.result c.own_fits.ensures (ap not c.if-not-own_fits.false) c.if-row-ne-RIGHT_OF_WAY.true

pub list_fits-requires : goal.list_fits-requires
list_fits-requires c = priority-asks c.args.cut.now c.args.row.now c.requires.1.1.0 c.requires.1.0 c.requires.0 c.if-row-ne-RIGHT_OF_WAY.false

pub list_fits-requires-2 : goal.list_fits-requires-2
list_fits-requires-2 c = yielding-asks c.args.cut.now c.args.row.now c.requires.1.1.0 c.requires.1.0 c.requires.0 c.if-row-ne-RIGHT_OF_WAY.false

pub returns : goal.returns
returns c = rule-both c.args.cut.now c.args.row.now c.requires.1.1.0 c.requires.1.0 c.args.anchored c.own_fits.result c.own_fits.ensures (ap not c.if-not-own_fits.false) c.if-row-ne-RIGHT_OF_WAY.false c.list_fits.result c.list_fits-2.result c.both.result c.list_fits.ensures c.list_fits-2.ensures c.both.ensures
