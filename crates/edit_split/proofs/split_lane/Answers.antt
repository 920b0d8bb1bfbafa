use borrow.Author.Rules.{rules}
use native.Mathlib.Omega.{arith}
use Rattle.step.specs.Step.{tables_of, lent_of, ended}
use Rattle.report.specs.Report.{counter_behind}
use Rattle.lookup.proofs.Laws.{place-within}
use Rattle.sound_facts.proofs.Found.{lanes_are_sorted, found, missing}
use Rattle.sound_facts.proofs.Facts.{facts}
use Rattle.edit_split.proofs.Ends.{absent, unplaced, may-group, split_done}
use Rattle.edit_split.proofs.split_lane.Goals as goal

-- src/lib.rt:550:9
pub lane-found-requires : goal.lane-found-requires
lane-found-requires c = let s = c in lanes_are_sorted s.args.counter (tables_of s.args.map.now.lanes.now s.args.map.now.boundaries.now s.args.map.now.roads.now s.args.map.now.junctions.now s.args.map.now.rules.now s.args.map.now.stop_lines.now s.args.map.now.crosswalks.now s.args.map.now.coordinates.now) s.requires

-- src/lib.rt:552:9
pub returns-in_default-clause-made : goal.returns-in_default-clause-made
returns-in_default-clause-made c = let s = c in absent s.args.tolerance (lent_of s.args.counter s.args.map.now.lanes.now s.args.map.now.boundaries.now s.args.map.now.roads.now s.args.map.now.junctions.now s.args.map.now.rules.now s.args.map.now.stop_lines.now s.args.map.now.crosswalks.now s.args.map.now.coordinates.now s.args.lists.now.created.now s.args.lists.now.modified.now s.args.lists.now.deleted.now s.args.lists.now.warnings.now) s.requires s.args.lane s.args.at s.args.neighbors (missing s.args.map.now.lanes.now s.args.lane c.lane-found.result c.lane-found.ensures c.in_default.is)

pub invariant_of-drawable : goal.invariant_of-drawable
invariant_of-drawable c = let s = c in record { drawable = (facts s.args.counter (tables_of s.args.map.now.lanes.now s.args.map.now.boundaries.now s.args.map.now.roads.now s.args.map.now.junctions.now s.args.map.now.rules.now s.args.map.now.stop_lines.now s.args.map.now.crosswalks.now s.args.map.now.coordinates.now) s.requires).drawable }

-- src/lib.rt:554:9
pub place_cut-requires : goal.place_cut-requires
place_cut-requires c = let s = c in place-within 52 s.args.map.now.lanes.now s.args.lane c.in-Some.i (found s.args.map.now.lanes.now s.args.lane c.in-Some.i c.lane-found.result c.lane-found.ensures c.in-Some.is)

-- src/lib.rt:557:30
pub split_group-requires : goal.split_group-requires
split_group-requires c = let s = c in may-group s.args.tolerance (lent_of s.args.counter s.args.map.now.lanes.now s.args.map.now.boundaries.now s.args.map.now.roads.now s.args.map.now.junctions.now s.args.map.now.rules.now s.args.map.now.stop_lines.now s.args.map.now.crosswalks.now s.args.map.now.coordinates.now s.args.lists.now.created.now s.args.lists.now.modified.now s.args.lists.now.deleted.now s.args.lists.now.warnings.now) s.requires s.args.lane s.args.at s.args.neighbors c.in-Some.i (found s.args.map.now.lanes.now s.args.lane c.in-Some.i c.lane-found.result c.lane-found.ensures c.in-Some.is) c.place_cut.result c.place_cut.ensures (omega (arith, s.well_formed.0.1)) _ c.in_ok-place.was

-- src/lib.rt:528:1
pub returns-in_err-place-clause-made : goal.returns-in_err-place-clause-made
returns-in_err-place-clause-made c =
    let s = c in
    let refused = unplaced s.args.tolerance (lent_of s.args.counter s.args.map.now.lanes.now s.args.map.now.boundaries.now s.args.map.now.roads.now s.args.map.now.junctions.now s.args.map.now.rules.now s.args.map.now.stop_lines.now s.args.map.now.crosswalks.now s.args.map.now.coordinates.now s.args.lists.now.created.now s.args.lists.now.modified.now s.args.lists.now.deleted.now s.args.lists.now.warnings.now) s.requires s.args.lane s.args.at s.args.neighbors c.in-Some.i (found s.args.map.now.lanes.now s.args.lane c.in-Some.i c.lane-found.result c.lane-found.ensures c.in-Some.is) c.place_cut.result c.place_cut.ensures _ c.in_err-place.was in
    search rules

-- src/lib.rt:528:1
pub returns-clause-made : goal.returns-clause-made
returns-clause-made c = let s = c in split_done s.args.tolerance (lent_of s.args.counter s.args.map.now.lanes.now s.args.map.now.boundaries.now s.args.map.now.roads.now s.args.map.now.junctions.now s.args.map.now.rules.now s.args.map.now.stop_lines.now s.args.map.now.crosswalks.now s.args.map.now.coordinates.now s.args.lists.now.created.now s.args.lists.now.modified.now s.args.lists.now.deleted.now s.args.lists.now.warnings.now) s.requires s.args.lane s.args.at s.args.neighbors c.in-Some.i (found s.args.map.now.lanes.now s.args.lane c.in-Some.i c.lane-found.result c.lane-found.ensures c.in-Some.is) c.place_cut.result c.place_cut.ensures (omega (arith, s.well_formed.0.1)) _ c.in_ok-place.was (ended (lent_of (counter_behind s.args.counter c.split_group.result) c.split_group.new.map.lanes.now c.split_group.new.map.boundaries.now c.split_group.new.map.roads.now c.split_group.new.map.junctions.now c.split_group.new.map.rules.now c.split_group.new.map.stop_lines.now c.split_group.new.map.crosswalks.now c.split_group.new.map.coordinates.now c.split_group.new.lists.created.now c.split_group.new.lists.modified.now c.split_group.new.lists.deleted.now c.split_group.new.lists.warnings.now) c.split_group.result) c.split_group.ensures.made
