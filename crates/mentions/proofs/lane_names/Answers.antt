-- `naming::lane_names` meets its contract: each way out is one law of the row's tests; a formed row's lists lie in it. Assumes nothing.
use borrow.Author.Rules.{rules}
use native.Mathlib.Omega.{arith}
use Rattle.row_tests.proofs.Formed.{lane-before, lane-after}
use Rattle.mentions.proofs.Tests.{lane-own, lane-before-has, lane-after-has, lane-left-names, lane-right-names}
use Rattle.mentions.proofs.lane_names.Goals as goal

pub returns-then-row-id : goal.returns-then-row-id
returns-then-row-id c = lane-own c.args.row.now c.args.id c.if-row-id.true

pub lists_lane-requires : goal.lists_lane-requires
lists_lane-requires c = omega (arith, c.requires.0, lane-before c.args.row.now c.requires.1)

pub returns-then-lists_lane : goal.returns-then-lists_lane
returns-then-lists_lane c = lane-before-has c.args.row.now c.args.id c.if-row-id.false c.lists_lane.result c.lists_lane.ensures c.if-lists_lane.true

pub lists_lane-requires-2 : goal.lists_lane-requires-2
lists_lane-requires-2 c = omega (arith, c.requires.0, lane-after c.args.row.now c.requires.1)

pub returns-then-lists_lane-2 : goal.returns-then-lists_lane-2
returns-then-lists_lane-2 c =
    let p = c.lists_lane in
    let q = c.lists_lane-2 in
    lane-after-has c.args.row.now c.args.id c.if-row-id.false p.result p.ensures c.if-lists_lane.false q.result q.ensures c.if-lists_lane-2.true

pub returns-then-slot_names : goal.returns-then-slot_names
returns-then-slot_names c =
    let p = c.lists_lane in
    let q = c.lists_lane-2 in
    let l = c.slot_names in
    lane-left-names c.args.row.now c.args.id c.if-row-id.false p.result p.ensures c.if-lists_lane.false q.result q.ensures c.if-lists_lane-2.false l.result l.ensures c.if-slot_names.true

pub returns : goal.returns
returns c =
    let p = c.lists_lane in
    let q = c.lists_lane-2 in
    let l = c.slot_names in
    let r = c.slot_names-2 in
    lane-right-names c.args.row.now c.args.id c.if-row-id.false p.result p.ensures c.if-lists_lane.false q.result q.ensures c.if-lists_lane-2.false l.result r.result l.ensures c.if-slot_names.false r.ensures
