-- `naming::forget_rule` meets its contract: its lists lie apart, so each is as it was when its turn comes. Assumes nothing.
use borrow.Author.Rules.{rules}
use Rattle.lists.specs.Select.{without}
use Rattle.lists.proofs.Select.{length_without}
use Rattle.mentions.proofs.Going.{RuleFits, lanes-room, priority-room, yielding-room, rule-changed-lanes, rule-changed, rule_fits_lem}
use Rattle.forgets.proofs.forget_rule.Goals as goal
use Rattle.forgets.proofs.forget_rule.Lts as lts
use Rattle.forgets.proofs.forget_rule.Reads as reads
use Rattle.forgets.proofs.forget_rule.Tie as tie

abbrev AtStart : Type 0
AtStart = lts.Start tie.the-claims reads.Pre reads.Post

fitting : (c : AtStart) → RuleFits (without c.args.id) (without c.args.id) c.args.row.now
fitting c = rule_fits_lem c.args.row.now c.requires (without c.args.id) (without c.args.id) (length_without c.args.id) (length_without c.args.id)

pub forget-requires : goal.forget-requires
forget-requires c = lanes-room c.args.row.now c.requires

pub returns-then-kind-ne-RIGHT_OF_WAY : goal.returns-then-kind-ne-RIGHT_OF_WAY
returns-then-kind-ne-RIGHT_OF_WAY c =
    let s = c in
    let g = without s.args.id in
    rule-changed-lanes s.args.row.now s.requires g g (fitting c.before.before.before.before.before.before.before.before) c.forget.new.row c.forget.ensures c.if-kind-ne-RIGHT_OF_WAY.true

pub forget-requires-2 : goal.forget-requires-2
forget-requires-2 c =
    let s = c in
    let g = without s.args.id in
    priority-room s.args.row.now s.requires g g (fitting c.before.before.before.before.before.before.before.before) c.forget.new.row c.forget.ensures c.if-kind-ne-RIGHT_OF_WAY.false

pub forget-requires-3 : goal.forget-requires-3
forget-requires-3 c =
    let s = c in
    let g = without s.args.id in
    let v = c.forget in
    let u = c.forget-2 in
    yielding-room s.args.row.now s.requires g g (fitting c.before.before.before.before.before.before.before.before.before.before.before.before) v.new.row v.ensures c.if-kind-ne-RIGHT_OF_WAY.false u.new.row u.ensures

pub returns : goal.returns
returns c =
    let s = c in
    let g = without s.args.id in
    let v = c.forget in
    let u = c.forget-2 in
    let t = c.forget-3 in
    rule-changed s.args.row.now s.requires g g (fitting c.before.before.before.before.before.before.before.before.before.before.before.before.before.before.before.before) v.new.row v.ensures c.if-kind-ne-RIGHT_OF_WAY.false u.new.row u.ensures t.new.row t.ensures
