-- `topology::clear_slot` meets its contract. Assumes nothing.
use borrow.Author.Rules.{rules}
use native.Mathlib.Omega.{arith}
use Rattle.row_tests.proofs.Lanes.{lane_room}
use Rattle.topology.proofs.Neighbors.{slot-room, clear-search, clear_within, cleared}
use Rattle.topology.proofs.clear_slot.Goals as goal

pub overflow_mul-lanes : goal.overflow_mul-lanes
overflow_mul-lanes c = omega (arith, lane_room c.free_answer.new.lanes (clear-search c.args.lanes.now c.requires.0 c.args.i c.requires.1 c.args.side c.neighbor-old.result c.neighbor-old.ensures c.free_answer.new.lanes c.free_answer.ensures) c.args.i (clear_within c.args.lanes.now c.requires.0 c.args.i c.requires.1 c.args.side c.neighbor-old.result c.neighbor-old.ensures c.free_answer.new.lanes c.free_answer.ensures))

pub overflow_add-lanes : goal.overflow_add-lanes
overflow_add-lanes c = omega (arith, lane_room c.free_answer.new.lanes (clear-search c.args.lanes.now c.requires.0 c.args.i c.requires.1 c.args.side c.neighbor-old.result c.neighbor-old.ensures c.free_answer.new.lanes c.free_answer.ensures) c.args.i (clear_within c.args.lanes.now c.requires.0 c.args.i c.requires.1 c.args.side c.neighbor-old.result c.neighbor-old.ensures c.free_answer.new.lanes c.free_answer.ensures))

pub overflow_add-lanes-2 : goal.overflow_add-lanes-2
overflow_add-lanes-2 c = omega (arith, slot-room c.free_answer.new.lanes (clear-search c.args.lanes.now c.requires.0 c.args.i c.requires.1 c.args.side c.neighbor-old.result c.neighbor-old.ensures c.free_answer.new.lanes c.free_answer.ensures) c.args.i (clear_within c.args.lanes.now c.requires.0 c.args.i c.requires.1 c.args.side c.neighbor-old.result c.neighbor-old.ensures c.free_answer.new.lanes c.free_answer.ensures) c.args.side c.slot_place.result c.slot_place.ensures)

pub offset_bounds-lanes-i : goal.offset_bounds-lanes-i
offset_bounds-lanes-i c = omega (arith, slot-room c.free_answer.new.lanes (clear-search c.args.lanes.now c.requires.0 c.args.i c.requires.1 c.args.side c.neighbor-old.result c.neighbor-old.ensures c.free_answer.new.lanes c.free_answer.ensures) c.args.i (clear_within c.args.lanes.now c.requires.0 c.args.i c.requires.1 c.args.side c.neighbor-old.result c.neighbor-old.ensures c.free_answer.new.lanes c.free_answer.ensures) c.args.side c.slot_place.result c.slot_place.ensures)

pub bounds-lanes-i : goal.bounds-lanes-i
bounds-lanes-i c = omega (arith, slot-room c.free_answer.new.lanes (clear-search c.args.lanes.now c.requires.0 c.args.i c.requires.1 c.args.side c.neighbor-old.result c.neighbor-old.ensures c.free_answer.new.lanes c.free_answer.ensures) c.args.i (clear_within c.args.lanes.now c.requires.0 c.args.i c.requires.1 c.args.side c.neighbor-old.result c.neighbor-old.ensures c.free_answer.new.lanes c.free_answer.ensures) c.args.side c.slot_place.result c.slot_place.ensures)

pub returns : goal.returns
returns c = cleared c.args.lanes.now c.requires.0 c.args.i c.requires.1 c.args.side c.neighbor-old.result c.neighbor-old.ensures c.free_answer.new.lanes c.free_answer.ensures c.slot_place.result c.slot_place.ensures
