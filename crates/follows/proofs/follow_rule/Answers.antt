-- `follows::follow_rule` meets its contract: its lists lie apart, so each is as it was when its turn comes. Assumes nothing.
use borrow.Author.Rules.{rules}
use Rattle.lists.specs.Select.{insert_after, numbered}
use Rattle.mentions.proofs.Going.{rule-changed-lanes, rule-changed}
use Rattle.follows.specs.Following.{followed_all}
use Rattle.follows.proofs.Rules.{rule-formed, rule-room, follow-all-may, priority-may, yielding-may}
use Rattle.follows.proofs.follow_rule.Goals as goal

pub follow_all-requires : goal.follow_all-requires
follow_all-requires c = follow-all-may c.args.anchored c.args.past.now c.args.next c.args.cut.now c.args.row.now c.requires.1.1.1 c.requires.0 c.requires.1.0 c.requires.1.1.0

pub returns-then-kind-ne-RIGHT_OF_WAY : goal.returns-then-kind-ne-RIGHT_OF_WAY
returns-then-kind-ne-RIGHT_OF_WAY c =
    rule-changed-lanes c.args.row.now (c.requires.1.0, rule-formed c.args.anchored c.args.past.now c.args.next c.args.cut.now c.args.row.now c.requires.1.1.1) (followed_all c.args.anchored c.args.past.now c.args.next c.args.cut.now) (insert_after (numbered c.args.next c.args.cut.now)) (rule-room c.args.anchored c.args.past.now c.args.next c.args.cut.now c.args.row.now c.requires.1.1.1) c.follow_all.new.row c.follow_all.ensures c.if-kind-ne-RIGHT_OF_WAY.true

pub grow_list-requires : goal.grow_list-requires
grow_list-requires c = priority-may c.args.anchored c.args.past.now c.args.next c.args.cut.now c.args.row.now c.requires.1.1.1 c.requires.0 c.requires.1.0 c.follow_all.new.row c.follow_all.ensures c.if-kind-ne-RIGHT_OF_WAY.false

pub grow_list-requires-2 : goal.grow_list-requires-2
grow_list-requires-2 c = yielding-may c.args.anchored c.args.past.now c.args.next c.args.cut.now c.args.row.now c.requires.1.1.1 c.requires.0 c.requires.1.0 c.follow_all.new.row c.follow_all.ensures c.if-kind-ne-RIGHT_OF_WAY.false c.grow_list.new.row c.grow_list.ensures

pub returns : goal.returns
returns c =
    rule-changed c.args.row.now (c.requires.1.0, rule-formed c.args.anchored c.args.past.now c.args.next c.args.cut.now c.args.row.now c.requires.1.1.1) (followed_all c.args.anchored c.args.past.now c.args.next c.args.cut.now) (insert_after (numbered c.args.next c.args.cut.now)) (rule-room c.args.anchored c.args.past.now c.args.next c.args.cut.now c.args.row.now c.requires.1.1.1) c.follow_all.new.row c.follow_all.ensures c.if-kind-ne-RIGHT_OF_WAY.false c.grow_list.new.row c.grow_list.ensures c.grow_list-2.new.row c.grow_list-2.ensures
