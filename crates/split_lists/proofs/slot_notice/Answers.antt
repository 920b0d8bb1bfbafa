-- `split_lists::slot_notice` meets its contract. Assumes nothing.
use native.Mathlib.Omega.{arith}
use Rattle.lists.proofs.Rows.{keys-one, there}
use mathlib.Core.Path.{ap}
use Rattle.split_lists.proofs.Dropped.{slot-free, slot-cut, slot-uncut}
use Rattle.split_lists.proofs.slot_notice.Goals as goal

pub returns-then-lanes-at-eq-NONE : goal.returns-then-lanes-at-eq-NONE
returns-then-lanes-at-eq-NONE c = slot-free c.args.cut.now c.args.lanes.now c.args.next c.args.second c.args.at c.if-lanes-at-eq-NONE.true

pub find_row-found-requires : goal.find_row-found-requires
find_row-found-requires c = (omega arith, (omega arith, rw keys-one c.requires.0))

pub returns-in-Some : goal.returns-in-Some
returns-in-Some c = slot-cut c.args.cut.now c.args.lanes.now c.args.next c.args.second c.args.at c.if-lanes-at-eq-NONE.false c.find_row-found.result c.find_row-found.ensures (ap there c.in-Some.is)

pub returns-in-None : goal.returns-in-None
returns-in-None c = slot-uncut c.args.cut.now c.args.lanes.now c.args.next c.args.second c.args.at c.if-lanes-at-eq-NONE.false c.find_row-found.result c.find_row-found.ensures (ap there c.in-None.is)
