use borrow.Author.Rules.{rules}
use Rattle.step.specs.Step.{lent_of, ended}
use Rattle.report.specs.Report.{counter_behind}
use Rattle.edit_split.proofs.Ends.{uncrossed, crossed-asks, crossed}
use Rattle.edit_split.proofs.split_stationed.Goals as goal

pub invariant_of-drawable : goal.invariant_of-drawable
invariant_of-drawable c = record { drawable = c.requires.drawable }

-- src/lib.rt:435:9
pub cross_all-requires : goal.cross_all-requires
cross_all-requires c = c.requires.marks

-- src/lib.rt:438:25
pub split_planned-requires : goal.split_planned-requires
split_planned-requires c = let s = c in crossed-asks s.args.tolerance s.args.own s.args.point s.args.seen.now s.args.cut.now s.args.stations.now (lent_of s.args.counter s.args.map.now.lanes.now s.args.map.now.boundaries.now s.args.map.now.roads.now s.args.map.now.junctions.now s.args.map.now.rules.now s.args.map.now.stop_lines.now s.args.map.now.crosswalks.now s.args.map.now.coordinates.now s.args.lists.now.created.now s.args.lists.now.modified.now s.args.lists.now.deleted.now s.args.lists.now.warnings.now) c.cross_all.result c.cross_all.ensures s.requires c.in_ok-cross_all.was

-- src/lib.rt:411:1
pub returns-in_err-cross_all-clause-made : goal.returns-in_err-cross_all-clause-made
returns-in_err-cross_all-clause-made c =
    let s = c in
    let refused = uncrossed s.args.tolerance s.args.own s.args.point s.args.seen.now s.args.cut.now s.args.stations.now (lent_of s.args.counter s.args.map.now.lanes.now s.args.map.now.boundaries.now s.args.map.now.roads.now s.args.map.now.junctions.now s.args.map.now.rules.now s.args.map.now.stop_lines.now s.args.map.now.crosswalks.now s.args.map.now.coordinates.now s.args.lists.now.created.now s.args.lists.now.modified.now s.args.lists.now.deleted.now s.args.lists.now.warnings.now) c.cross_all.result c.cross_all.ensures _ c.in_err-cross_all.was in
    search rules

-- src/lib.rt:411:1
pub returns-clause-made : goal.returns-clause-made
returns-clause-made c = let s = c in crossed s.args.tolerance s.args.own s.args.point s.args.seen.now s.args.cut.now s.args.stations.now (lent_of s.args.counter s.args.map.now.lanes.now s.args.map.now.boundaries.now s.args.map.now.roads.now s.args.map.now.junctions.now s.args.map.now.rules.now s.args.map.now.stop_lines.now s.args.map.now.crosswalks.now s.args.map.now.coordinates.now s.args.lists.now.created.now s.args.lists.now.modified.now s.args.lists.now.deleted.now s.args.lists.now.warnings.now) c.cross_all.result c.cross_all.ensures c.in_ok-cross_all.was (ended (lent_of (counter_behind s.args.counter c.split_planned.result) c.split_planned.new.map.lanes.now c.split_planned.new.map.boundaries.now c.split_planned.new.map.roads.now c.split_planned.new.map.junctions.now c.split_planned.new.map.rules.now c.split_planned.new.map.stop_lines.now c.split_planned.new.map.crosswalks.now c.split_planned.new.map.coordinates.now c.split_planned.new.lists.created.now c.split_planned.new.lists.modified.now c.split_planned.new.lists.deleted.now c.split_planned.new.lists.warnings.now) c.split_planned.result) c.split_planned.ensures.made
