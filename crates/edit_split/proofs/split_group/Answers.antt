use borrow.Author.Rules.{rules}
use Rattle.step.specs.Step.{tables_of, lent_of, ended}
use Rattle.report.specs.Report.{counter_behind}
use mathlib.Core.Bool.{false}
use Prim.Native.Nat.{ℕ}
use lib.Ieee.{Float, of_bits, binary64}
use lib.ListN.{length-replicate, replicate}
use native.Mathlib.Omega.{arith}
use Rattle.group.proofs.Choose.{unset}
use Rattle.edit_split.proofs.Ends.{unplanned, marks_there, cut-there, cut-length, stations_there, stations_length, group-asks, group-done}
use Rattle.edit_split.proofs.split_group.Goals as goal

-- src/lib.rt:489:5
pub choose-requires : goal.choose-requires
choose-requires c = let s = c in (s.requires.search, (s.requires.row, (length-replicate 1024 false, unset 1024)))

pub invariant_of-drawable : goal.invariant_of-drawable
invariant_of-drawable c = record { drawable = c.requires.drawable }

-- src/lib.rt:490:9
pub plan_lanes-requires : goal.plan_lanes-requires
plan_lanes-requires c = let s = c in (marks_there s.args.i s.args.neighbors (tables_of s.args.map.now.lanes.now s.args.map.now.boundaries.now s.args.map.now.roads.now s.args.map.now.junctions.now s.args.map.now.rules.now s.args.map.now.stop_lines.now s.args.map.now.crosswalks.now s.args.map.now.coordinates.now) c.choose.new.seen c.choose.ensures s.requires.rows, (omega (arith, s.requires.rows, length-replicate {A = ℕ} 1024 0), omega (arith, s.requires.rows, length-replicate {A = Float} 1024 (of_bits binary64 0))))

-- src/lib.rt:517:13
pub slice_bounds-ids-end : goal.slice_bounds-ids-end
slice_bounds-ids-end c = let s = c in cut-there s.args.tolerance s.args.own s.args.i s.args.place s.args.neighbors (lent_of s.args.counter s.args.map.now.lanes.now s.args.map.now.boundaries.now s.args.map.now.roads.now s.args.map.now.junctions.now s.args.map.now.rules.now s.args.map.now.stop_lines.now s.args.map.now.crosswalks.now s.args.map.now.coordinates.now s.args.lists.now.created.now s.args.lists.now.modified.now s.args.lists.now.deleted.now s.args.lists.now.warnings.now) c.choose.new.seen c.choose.ensures c.plan_lanes.result c.plan_lanes.ensures.0 s.requires _ c.in_ok-k.was (replicate 1024 0) c.plan_lanes.new.cut (length-replicate {A = ℕ} 1024 0) c.plan_lanes.ensures.1.0 (replicate 1024 (of_bits binary64 0)) c.plan_lanes.new.stations (length-replicate {A = Float} 1024 (of_bits binary64 0)) c.plan_lanes.ensures.1.1

-- src/lib.rt:517:13
pub slice_bounds-split_stationed-end-2 : goal.slice_bounds-split_stationed-end-2
slice_bounds-split_stationed-end-2 c = let s = c in cut-length s.args.tolerance s.args.own s.args.i s.args.place s.args.neighbors (lent_of s.args.counter s.args.map.now.lanes.now s.args.map.now.boundaries.now s.args.map.now.roads.now s.args.map.now.junctions.now s.args.map.now.rules.now s.args.map.now.stop_lines.now s.args.map.now.crosswalks.now s.args.map.now.coordinates.now s.args.lists.now.created.now s.args.lists.now.modified.now s.args.lists.now.deleted.now s.args.lists.now.warnings.now) c.choose.new.seen c.choose.ensures c.plan_lanes.result c.plan_lanes.ensures.0 s.requires _ c.in_ok-k.was (replicate 1024 0) c.plan_lanes.new.cut (length-replicate {A = ℕ} 1024 0) c.plan_lanes.ensures.1.0 (replicate 1024 (of_bits binary64 0)) c.plan_lanes.new.stations (length-replicate {A = Float} 1024 (of_bits binary64 0)) c.plan_lanes.ensures.1.1

-- src/lib.rt:518:13
pub slice_bounds-stations-end : goal.slice_bounds-stations-end
slice_bounds-stations-end c = let s = c in stations_there s.args.tolerance s.args.own s.args.i s.args.place s.args.neighbors (lent_of s.args.counter s.args.map.now.lanes.now s.args.map.now.boundaries.now s.args.map.now.roads.now s.args.map.now.junctions.now s.args.map.now.rules.now s.args.map.now.stop_lines.now s.args.map.now.crosswalks.now s.args.map.now.coordinates.now s.args.lists.now.created.now s.args.lists.now.modified.now s.args.lists.now.deleted.now s.args.lists.now.warnings.now) c.choose.new.seen c.choose.ensures c.plan_lanes.result c.plan_lanes.ensures.0 s.requires _ c.in_ok-k.was (replicate 1024 0) c.plan_lanes.new.cut (length-replicate {A = ℕ} 1024 0) c.plan_lanes.ensures.1.0 (replicate 1024 (of_bits binary64 0)) c.plan_lanes.new.stations (length-replicate {A = Float} 1024 (of_bits binary64 0)) c.plan_lanes.ensures.1.1

-- src/lib.rt:518:13
pub slice_bounds-split_stationed-end-3 : goal.slice_bounds-split_stationed-end-3
slice_bounds-split_stationed-end-3 c = let s = c in stations_length s.args.tolerance s.args.own s.args.i s.args.place s.args.neighbors (lent_of s.args.counter s.args.map.now.lanes.now s.args.map.now.boundaries.now s.args.map.now.roads.now s.args.map.now.junctions.now s.args.map.now.rules.now s.args.map.now.stop_lines.now s.args.map.now.crosswalks.now s.args.map.now.coordinates.now s.args.lists.now.created.now s.args.lists.now.modified.now s.args.lists.now.deleted.now s.args.lists.now.warnings.now) c.choose.new.seen c.choose.ensures c.plan_lanes.result c.plan_lanes.ensures.0 s.requires _ c.in_ok-k.was (replicate 1024 0) c.plan_lanes.new.cut (length-replicate {A = ℕ} 1024 0) c.plan_lanes.ensures.1.0 (replicate 1024 (of_bits binary64 0)) c.plan_lanes.new.stations (length-replicate {A = Float} 1024 (of_bits binary64 0)) c.plan_lanes.ensures.1.1

-- src/lib.rt:503:28
pub split_stationed-requires : goal.split_stationed-requires
split_stationed-requires c = let s = c in group-asks s.args.tolerance s.args.own s.args.i s.args.place s.args.neighbors (lent_of s.args.counter s.args.map.now.lanes.now s.args.map.now.boundaries.now s.args.map.now.roads.now s.args.map.now.junctions.now s.args.map.now.rules.now s.args.map.now.stop_lines.now s.args.map.now.crosswalks.now s.args.map.now.coordinates.now s.args.lists.now.created.now s.args.lists.now.modified.now s.args.lists.now.deleted.now s.args.lists.now.warnings.now) c.choose.new.seen c.choose.ensures c.plan_lanes.result c.plan_lanes.ensures.0 s.requires _ c.in_ok-k.was (replicate 1024 0) c.plan_lanes.new.cut (length-replicate {A = ℕ} 1024 0) c.plan_lanes.ensures.1.0 (replicate 1024 (of_bits binary64 0)) c.plan_lanes.new.stations (length-replicate {A = Float} 1024 (of_bits binary64 0)) c.plan_lanes.ensures.1.1

-- src/lib.rt:463:1
pub returns-in_err-k-clause-made : goal.returns-in_err-k-clause-made
returns-in_err-k-clause-made c =
    let s = c in
    let refused = unplanned s.args.tolerance s.args.own s.args.i s.args.place s.args.neighbors (lent_of s.args.counter s.args.map.now.lanes.now s.args.map.now.boundaries.now s.args.map.now.roads.now s.args.map.now.junctions.now s.args.map.now.rules.now s.args.map.now.stop_lines.now s.args.map.now.crosswalks.now s.args.map.now.coordinates.now s.args.lists.now.created.now s.args.lists.now.modified.now s.args.lists.now.deleted.now s.args.lists.now.warnings.now) c.choose.new.seen c.choose.ensures c.plan_lanes.result c.plan_lanes.ensures.0 _ c.in_err-k.was in
    search rules

-- src/lib.rt:463:1
pub returns-clause-made : goal.returns-clause-made
returns-clause-made c = let s = c in group-done s.args.tolerance s.args.own s.args.i s.args.place s.args.neighbors (lent_of s.args.counter s.args.map.now.lanes.now s.args.map.now.boundaries.now s.args.map.now.roads.now s.args.map.now.junctions.now s.args.map.now.rules.now s.args.map.now.stop_lines.now s.args.map.now.crosswalks.now s.args.map.now.coordinates.now s.args.lists.now.created.now s.args.lists.now.modified.now s.args.lists.now.deleted.now s.args.lists.now.warnings.now) c.choose.new.seen c.choose.ensures c.plan_lanes.result c.plan_lanes.ensures.0 s.requires _ c.in_ok-k.was (replicate 1024 0) c.plan_lanes.new.cut (length-replicate {A = ℕ} 1024 0) c.plan_lanes.ensures.1.0 (replicate 1024 (of_bits binary64 0)) c.plan_lanes.new.stations (length-replicate {A = Float} 1024 (of_bits binary64 0)) c.plan_lanes.ensures.1.1 (ended (lent_of (counter_behind s.args.counter c.split_stationed.result) c.split_stationed.new.map.lanes.now c.split_stationed.new.map.boundaries.now c.split_stationed.new.map.roads.now c.split_stationed.new.map.junctions.now c.split_stationed.new.map.rules.now c.split_stationed.new.map.stop_lines.now c.split_stationed.new.map.crosswalks.now c.split_stationed.new.map.coordinates.now c.split_stationed.new.lists.created.now c.split_stationed.new.lists.modified.now c.split_stationed.new.lists.deleted.now c.split_stationed.new.lists.warnings.now) c.split_stationed.result) c.split_stationed.ensures.made
