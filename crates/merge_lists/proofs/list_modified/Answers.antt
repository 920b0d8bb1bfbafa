use borrow.Author.Rules.{rules}
use Rattle.merge_lists.proofs.Listed.{lanes-room, joined-room, roads-room, junctions-room, rules-room, modified-listed}
use Rattle.merge_lists.proofs.list_modified.Goals as goal

-- src/lib.rt:105:9
pub list-a-requires : goal.list-a-requires
list-a-requires c =
    let s = c in
    let a = s.args in
    (s.requires.0.lanes, lanes-room a.second a.joined.now a.map.lanes.now a.map.roads.now a.map.junctions.now a.map.rules.now a.modified.now s.requires.1)

-- src/lib.rt:106:9
pub list_ids-b-requires : goal.list_ids-b-requires
list_ids-b-requires c =
    let s = c in
    let a = s.args in
    let l1 = c.list-a in
    joined-room a.second a.joined.now a.map.lanes.now a.map.roads.now a.map.junctions.now a.map.rules.now a.modified.now s.requires.1 l1.result l1.new.out l1.ensures.0 l1.ensures.1

-- src/lib.rt:107:9
pub list-c-requires : goal.list-c-requires
list-c-requires c =
    let s = c in
    let a = s.args in
    let l1 = c.list-a in
    let l2 = c.list_ids-b in
    (s.requires.0.roads, roads-room a.second a.joined.now a.map.lanes.now a.map.roads.now a.map.junctions.now a.map.rules.now a.modified.now s.requires.1 l1.result l1.new.out l1.ensures.0 l1.ensures.1 l2.result l2.new.out l2.ensures.0 l2.ensures.1)

-- src/lib.rt:108:9
pub list-d-requires : goal.list-d-requires
list-d-requires c =
    let s = c in
    let a = s.args in
    let l1 = c.list-a in
    let l2 = c.list_ids-b in
    let l3 = c.list-c in
    (s.requires.0.junctions, junctions-room a.second a.joined.now a.map.lanes.now a.map.roads.now a.map.junctions.now a.map.rules.now a.modified.now s.requires.1 l1.result l1.new.out l1.ensures.0 l1.ensures.1 l2.result l2.new.out l2.ensures.0 l2.ensures.1 l3.result l3.new.out l3.ensures.0 l3.ensures.1)

-- src/lib.rt:109:5
pub list-requires : goal.list-requires
list-requires c =
    let s = c in
    let a = s.args in
    let l1 = c.list-a in
    let l2 = c.list_ids-b in
    let l3 = c.list-c in
    let l4 = c.list-d in
    (s.requires.0.rules, rules-room a.second a.joined.now a.map.lanes.now a.map.roads.now a.map.junctions.now a.map.rules.now a.modified.now s.requires.1 l1.result l1.new.out l1.ensures.0 l1.ensures.1 l2.result l2.new.out l2.ensures.0 l2.ensures.1 l3.result l3.new.out l3.ensures.0 l3.ensures.1 l4.result l4.new.out l4.ensures.0 l4.ensures.1)

-- src/lib.rt:92:1
pub returns : goal.returns
returns c =
    let s = c in
    let a = s.args in
    let l1 = c.list-a in
    let l2 = c.list_ids-b in
    let l3 = c.list-c in
    let l4 = c.list-d in
    let l5 = c.list in
    modified-listed a.second a.joined.now a.map.lanes.now a.map.roads.now a.map.junctions.now a.map.rules.now a.modified.now s.requires.1 l1.result l1.new.out l1.ensures.0 l1.ensures.1 l2.result l2.new.out l2.ensures.0 l2.ensures.1 l3.result l3.new.out l3.ensures.0 l3.ensures.1 l4.result l4.new.out l4.ensures.0 l4.ensures.1 l5.result l5.new.out l5.ensures.0 l5.ensures.1
