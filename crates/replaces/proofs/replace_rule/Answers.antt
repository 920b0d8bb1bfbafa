-- `naming::replace_rule` meets its contract: its lists lie apart, so each is as it was when its turn comes. Assumes nothing.
use Rattle.rules.specs.Merge.{replace_lane}
use Rattle.mentions.specs.Naming.{rule_replaces}
use Rattle.mentions.proofs.Going.{RuleFits, lanes-room, priority-room, yielding-room, rule-changed-lanes, rule-changed, rule_fits_lem, length-replace}
use Rattle.replaces.proofs.replace_rule.Goals as goal
use Rattle.replaces.proofs.replace_rule.Lts as lts
use Rattle.replaces.proofs.replace_rule.Reads as reads
use Rattle.replaces.proofs.replace_rule.Tie as tie

abbrev AtStart : Type 0
AtStart = lts.Start tie.the-claims reads.Pre reads.Post

fitting : (c : AtStart) → RuleFits (replace_lane c.args.to c.args.from) (replace_lane c.args.to c.args.from) c.args.row.now
fitting c = rule_fits_lem c.args.row.now c.requires (replace_lane c.args.to c.args.from) (replace_lane c.args.to c.args.from) (length-replace c.args.to c.args.from) (length-replace c.args.to c.args.from)

pub replace_list-requires : goal.replace_list-requires
replace_list-requires c = lanes-room c.args.row.now c.requires

pub returns-then-kind-ne-RIGHT_OF_WAY : goal.returns-then-kind-ne-RIGHT_OF_WAY
unfolding rule_replaces
returns-then-kind-ne-RIGHT_OF_WAY c =
    let s = c in
    let g = replace_lane s.args.to s.args.from in
    rule-changed-lanes s.args.row.now s.requires g g (fitting c.before.before.before.before.before.before.before.before) c.replace_list.new.row c.replace_list.ensures c.if-kind-ne-RIGHT_OF_WAY.true

pub replace_list-requires-2 : goal.replace_list-requires-2
replace_list-requires-2 c =
    let s = c in
    let g = replace_lane s.args.to s.args.from in
    priority-room s.args.row.now s.requires g g (fitting c.before.before.before.before.before.before.before.before) c.replace_list.new.row c.replace_list.ensures c.if-kind-ne-RIGHT_OF_WAY.false

pub replace_list-requires-3 : goal.replace_list-requires-3
replace_list-requires-3 c =
    let s = c in
    let g = replace_lane s.args.to s.args.from in
    let v = c.replace_list in
    let u = c.replace_list-2 in
    yielding-room s.args.row.now s.requires g g (fitting c.before.before.before.before.before.before.before.before.before.before.before.before) v.new.row v.ensures c.if-kind-ne-RIGHT_OF_WAY.false u.new.row u.ensures

pub returns : goal.returns
unfolding rule_replaces
returns c =
    let s = c in
    let g = replace_lane s.args.to s.args.from in
    let v = c.replace_list in
    let u = c.replace_list-2 in
    let t = c.replace_list-3 in
    rule-changed s.args.row.now s.requires g g (fitting c.before.before.before.before.before.before.before.before.before.before.before.before.before.before.before.before) v.new.row v.ensures c.if-kind-ne-RIGHT_OF_WAY.false u.new.row u.ensures t.new.row t.ensures
