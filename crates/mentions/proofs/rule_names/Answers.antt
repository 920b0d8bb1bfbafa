-- `naming::rule_names` meets its contract: each way out is one law of the row's tests; a formed row's lists lie in it. Assumes nothing.
use borrow.Author.Rules.{rules}
use native.Mathlib.Omega.{arith}
use Rattle.row_tests.proofs.Formed.{rule-lanes, rule-priority, rule-yielding}
use Rattle.mentions.proofs.Tests.{rule-lane, rule-other, rule-priority-has, rule-yielding-has}
use Rattle.mentions.proofs.rule_names.Goals as goal

pub lists_lane-requires : goal.lists_lane-requires
lists_lane-requires c = omega (arith, c.requires.0, rule-lanes c.args.row.now c.requires.1)

pub returns-then-lists_lane : goal.returns-then-lists_lane
returns-then-lists_lane c =
    let p = c.lists_lane in
    rule-lane c.args.row.now c.args.id p.result p.ensures c.if-lists_lane.true

pub returns-then-row-ne-RIGHT_OF_WAY : goal.returns-then-row-ne-RIGHT_OF_WAY
returns-then-row-ne-RIGHT_OF_WAY c =
    let p = c.lists_lane in
    rule-other c.args.row.now c.args.id p.result p.ensures c.if-lists_lane.false c.if-row-ne-RIGHT_OF_WAY.true

pub lists_lane-requires-2 : goal.lists_lane-requires-2
lists_lane-requires-2 c = omega (arith, c.requires.0, rule-priority c.args.row.now c.requires.1 c.if-row-ne-RIGHT_OF_WAY.false)

pub returns-then-lists_lane-2 : goal.returns-then-lists_lane-2
returns-then-lists_lane-2 c =
    let p = c.lists_lane in
    let q = c.lists_lane-2 in
    rule-priority-has c.args.row.now c.args.id p.result p.ensures c.if-lists_lane.false c.if-row-ne-RIGHT_OF_WAY.false q.result q.ensures c.if-lists_lane-2.true

pub lists_lane-requires-3 : goal.lists_lane-requires-3
lists_lane-requires-3 c = omega (arith, c.requires.0, rule-yielding c.args.row.now c.requires.1 c.if-row-ne-RIGHT_OF_WAY.false)

pub returns : goal.returns
returns c =
    let p = c.lists_lane in
    let q = c.lists_lane-2 in
    let r = c.lists_lane-3 in
    rule-yielding-has c.args.row.now c.args.id p.result p.ensures c.if-lists_lane.false c.if-row-ne-RIGHT_OF_WAY.false q.result r.result q.ensures c.if-lists_lane-2.false r.ensures
