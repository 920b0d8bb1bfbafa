-- `faults::rows_fault` meets its contract. What the calls found, in the order of the tables. Assumes nothing.
use mathlib.Core.Path.{refl}
use Rattle.tables.specs.View.{tables_of}
use Rattle.row_faults.specs.Passes.{row_words}
use Rattle.soundness.proofs.Counts.{counts}
use Rattle.faults.specs.Faults.{rows_fault}
use Rattle.faults.proofs.Laws.{four}
use Rattle.faults.proofs.rows_fault.Goals as goal

pub row_fault-requires : goal.row_fault-requires
unfolding row_words
row_fault-requires c = (refl, (counts (tables_of c.args.map.lanes.now c.args.map.boundaries.now c.args.map.roads.now c.args.map.junctions.now c.args.map.rules.now c.args.map.stop_lines.now c.args.map.crosswalks.now c.args.map.coordinates.now) c.requires).lanes)

pub row_fault-requires-2 : goal.row_fault-requires-2
unfolding row_words
row_fault-requires-2 c = (refl, (counts (tables_of c.args.map.lanes.now c.args.map.boundaries.now c.args.map.roads.now c.args.map.junctions.now c.args.map.rules.now c.args.map.stop_lines.now c.args.map.crosswalks.now c.args.map.coordinates.now) c.requires).boundaries)

pub row_fault-requires-3 : goal.row_fault-requires-3
unfolding row_words
row_fault-requires-3 c = (refl, (counts (tables_of c.args.map.lanes.now c.args.map.boundaries.now c.args.map.roads.now c.args.map.junctions.now c.args.map.rules.now c.args.map.stop_lines.now c.args.map.crosswalks.now c.args.map.coordinates.now) c.requires).roads)

pub returns : goal.returns
unfolding rows_fault
returns c = four c.row_fault.ensures c.row_fault-2.ensures c.row_fault-3.ensures c.later_rows_fault-later.ensures c.or.ensures c.or-2.ensures c.or-3.ensures
