-- `topology::put_slot` meets its contract. Assumes nothing.
use borrow.Author.Rules.{rules}
use native.Mathlib.Omega.{arith}
use Prim.Native.Nat.{◌+◌, ◌*◌}
use lib.ListN.{length-set}
use Rattle.row_tests.proofs.Lanes.{lane_room}
use Rattle.topology.proofs.Neighbors.{slot-room, slot-put}
use Rattle.topology.proofs.put_slot.Goals as goal

pub overflow_mul-at : goal.overflow_mul-at
overflow_mul-at c = omega (arith, lane_room c.args.lanes.now c.requires.0 c.args.i c.requires.1)

pub overflow_add-at : goal.overflow_add-at
overflow_add-at c = omega (arith, lane_room c.args.lanes.now c.requires.0 c.args.i c.requires.1)

pub overflow_add-at-2 : goal.overflow_add-at-2
overflow_add-at-2 c = omega (arith, slot-room c.args.lanes.now c.requires.0 c.args.i c.requires.1 c.args.side c.slot_place.result c.slot_place.ensures)

pub offset_bounds-lanes-at : goal.offset_bounds-lanes-at
offset_bounds-lanes-at c = omega (arith, slot-room c.args.lanes.now c.requires.0 c.args.i c.requires.1 c.args.side c.slot_place.result c.slot_place.ensures)

pub bounds-lanes-at : goal.bounds-lanes-at
bounds-lanes-at c = omega (arith, slot-room c.args.lanes.now c.requires.0 c.args.i c.requires.1 c.args.side c.slot_place.result c.slot_place.ensures)

pub overflow_add-lanes : goal.overflow_add-lanes
overflow_add-lanes c = omega (arith, slot-room c.args.lanes.now c.requires.0 c.args.i c.requires.1 c.args.side c.slot_place.result c.slot_place.ensures)

pub offset_bounds-lanes-at-2 : goal.offset_bounds-lanes-at-2
offset_bounds-lanes-at-2 c = omega (arith, slot-room c.args.lanes.now c.requires.0 c.args.i c.requires.1 c.args.side c.slot_place.result c.slot_place.ensures)

pub bounds-lanes-at-2 : goal.bounds-lanes-at-2
bounds-lanes-at-2 c = omega (arith, slot-room c.args.lanes.now c.requires.0 c.args.i c.requires.1 c.args.side c.slot_place.result c.slot_place.ensures, length-set c.args.lanes.now (1 + c.args.i * 52 + c.slot_place.result) c.direction_mark.result)

pub returns : goal.returns
returns c = slot-put c.args.lanes.now c.requires.0 c.args.i c.requires.1 c.args.side c.slot_place.result c.slot_place.ensures c.args.n c.direction_mark.result c.direction_mark.ensures
