-- `faults::ids_fault` meets its contract. What the calls found, in the order of the tables. Assumes nothing.
use native.Mathlib.Omega.{arith}
use Rattle.tables.specs.View.{tables_of}
use Rattle.soundness.proofs.Counts.{counts}
use Rattle.faults.specs.Faults.{ids_fault}
use Rattle.faults.proofs.Laws.{seven}
use Rattle.faults.proofs.ids_fault.Goals as goal

pub id_fault-requires : goal.id_fault-requires
id_fault-requires c = (omega arith, (counts (tables_of c.args.map.lanes.now c.args.map.boundaries.now c.args.map.roads.now c.args.map.junctions.now c.args.map.rules.now c.args.map.stop_lines.now c.args.map.crosswalks.now c.args.map.coordinates.now) c.requires).lanes)

pub id_fault-requires-2 : goal.id_fault-requires-2
id_fault-requires-2 c = (omega arith, (counts (tables_of c.args.map.lanes.now c.args.map.boundaries.now c.args.map.roads.now c.args.map.junctions.now c.args.map.rules.now c.args.map.stop_lines.now c.args.map.crosswalks.now c.args.map.coordinates.now) c.requires).boundaries)

pub id_fault-requires-3 : goal.id_fault-requires-3
id_fault-requires-3 c = (omega arith, (counts (tables_of c.args.map.lanes.now c.args.map.boundaries.now c.args.map.roads.now c.args.map.junctions.now c.args.map.rules.now c.args.map.stop_lines.now c.args.map.crosswalks.now c.args.map.coordinates.now) c.requires).roads)

pub id_fault-requires-4 : goal.id_fault-requires-4
id_fault-requires-4 c = (omega arith, (counts (tables_of c.args.map.lanes.now c.args.map.boundaries.now c.args.map.roads.now c.args.map.junctions.now c.args.map.rules.now c.args.map.stop_lines.now c.args.map.crosswalks.now c.args.map.coordinates.now) c.requires).junctions)

pub id_fault-requires-5 : goal.id_fault-requires-5
id_fault-requires-5 c = (omega arith, (counts (tables_of c.args.map.lanes.now c.args.map.boundaries.now c.args.map.roads.now c.args.map.junctions.now c.args.map.rules.now c.args.map.stop_lines.now c.args.map.crosswalks.now c.args.map.coordinates.now) c.requires).rules)

pub id_fault-requires-6 : goal.id_fault-requires-6
id_fault-requires-6 c = (omega arith, (counts (tables_of c.args.map.lanes.now c.args.map.boundaries.now c.args.map.roads.now c.args.map.junctions.now c.args.map.rules.now c.args.map.stop_lines.now c.args.map.crosswalks.now c.args.map.coordinates.now) c.requires).stop_lines)

pub id_fault-requires-7 : goal.id_fault-requires-7
id_fault-requires-7 c = (omega arith, (counts (tables_of c.args.map.lanes.now c.args.map.boundaries.now c.args.map.roads.now c.args.map.junctions.now c.args.map.rules.now c.args.map.stop_lines.now c.args.map.crosswalks.now c.args.map.coordinates.now) c.requires).crosswalks)

pub returns : goal.returns
unfolding ids_fault
returns c = seven c.id_fault.ensures c.id_fault-2.ensures c.id_fault-3.ensures c.id_fault-4.ensures c.id_fault-5.ensures c.id_fault-6.ensures c.id_fault-7.ensures c.or.ensures c.or-2.ensures c.or-3.ensures c.or-4.ensures c.or-5.ensures c.or-6.ensures
