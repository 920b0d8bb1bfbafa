-- `lane_lists::list_named` meets its contract: the four lists, each behind those that stand there. Assumes nothing.
use borrow.Author.Rules.{rules}
use Rattle.lane_lists.proofs.Listed.{lanes-room, roads-room, junctions-room, rules-room, named-listed}
use Rattle.lane_lists.proofs.list_named.Goals as goal

pub list-a-requires : goal.list-a-requires
list-a-requires c =
    let a = c.args in
    (c.requires.0.lanes, lanes-room a.lane a.lanes.now a.roads.now a.junctions.now a.rules.now a.modified.now c.requires.1)

pub list-b-requires : goal.list-b-requires
list-b-requires c =
    let a = c.args in
    let l1 = c.list-a in
    (c.requires.0.roads, roads-room a.lane a.lanes.now a.roads.now a.junctions.now a.rules.now a.modified.now c.requires.1 l1.result l1.new.out l1.ensures.0 l1.ensures.1)

pub list-c-requires : goal.list-c-requires
list-c-requires c =
    let a = c.args in
    let l1 = c.list-a in
    let l2 = c.list-b in
    (c.requires.0.junctions, junctions-room a.lane a.lanes.now a.roads.now a.junctions.now a.rules.now a.modified.now c.requires.1 l1.result l1.new.out l1.ensures.0 l1.ensures.1 l2.result l2.new.out l2.ensures.0 l2.ensures.1)

pub list-requires : goal.list-requires
list-requires c =
    let a = c.args in
    let l1 = c.list-a in
    let l2 = c.list-b in
    let l3 = c.list-c in
    (c.requires.0.rules, rules-room a.lane a.lanes.now a.roads.now a.junctions.now a.rules.now a.modified.now c.requires.1 l1.result l1.new.out l1.ensures.0 l1.ensures.1 l2.result l2.new.out l2.ensures.0 l2.ensures.1 l3.result l3.new.out l3.ensures.0 l3.ensures.1)

pub returns : goal.returns
returns c =
    let a = c.args in
    let l1 = c.list-a in
    let l2 = c.list-b in
    let l3 = c.list-c in
    let l4 = c.list in
    named-listed a.lane a.lanes.now a.roads.now a.junctions.now a.rules.now a.modified.now c.requires.1 l1.result l1.new.out l1.ensures.0 l1.ensures.1 l2.result l2.new.out l2.ensures.0 l2.ensures.1 l3.result l3.new.out l3.ensures.0 l3.ensures.1 l4.result l4.new.out l4.ensures.0 l4.ensures.1
