-- `topology::neighbor` meets its contract. Assumes nothing.
use borrow.Author.Rules.{rules}
use native.Mathlib.Omega.{arith}
use Rattle.row_tests.proofs.Lanes.{lane_room}
use Rattle.topology.proofs.Neighbors.{slot-room, held_none, held_same, held-opposite}
use Rattle.topology.proofs.neighbor.Goals as goal

pub overflow_mul-at : goal.overflow_mul-at
overflow_mul-at c = omega (arith, lane_room c.args.lanes.now c.requires.0 c.args.i c.requires.1)

pub overflow_add-at : goal.overflow_add-at
overflow_add-at c = omega (arith, lane_room c.args.lanes.now c.requires.0 c.args.i c.requires.1)

pub overflow_add-at-2 : goal.overflow_add-at-2
overflow_add-at-2 c = omega (arith, slot-room c.args.lanes.now c.requires.0 c.args.i c.requires.1 c.args.side c.slot_place.result c.slot_place.ensures)

pub offset_bounds-lanes-at : goal.offset_bounds-lanes-at
offset_bounds-lanes-at c = omega (arith, slot-room c.args.lanes.now c.requires.0 c.args.i c.requires.1 c.args.side c.slot_place.result c.slot_place.ensures)

pub bounds-lanes-at : goal.bounds-lanes-at
bounds-lanes-at c = omega (arith, slot-room c.args.lanes.now c.requires.0 c.args.i c.requires.1 c.args.side c.slot_place.result c.slot_place.ensures)

pub overflow_add-lane : goal.overflow_add-lane
overflow_add-lane c = omega (arith, slot-room c.args.lanes.now c.requires.0 c.args.i c.requires.1 c.args.side c.slot_place.result c.slot_place.ensures)

pub offset_bounds-lanes-at-2 : goal.offset_bounds-lanes-at-2
offset_bounds-lanes-at-2 c = omega (arith, slot-room c.args.lanes.now c.requires.0 c.args.i c.requires.1 c.args.side c.slot_place.result c.slot_place.ensures)

pub bounds-lanes-at-2 : goal.bounds-lanes-at-2
bounds-lanes-at-2 c = omega (arith, slot-room c.args.lanes.now c.requires.0 c.args.i c.requires.1 c.args.side c.slot_place.result c.slot_place.ensures)

pub returns-then-mark-eq-NONE : goal.returns-then-mark-eq-NONE
returns-then-mark-eq-NONE c = held_none c.args.lanes.now c.args.i c.slot_place.result c.args.side c.slot_place.ensures c.if-mark-eq-NONE.true

pub returns-then-mark-eq-SAME : goal.returns-then-mark-eq-SAME
returns-then-mark-eq-SAME c = held_same c.args.lanes.now c.args.i c.slot_place.result c.args.side c.slot_place.ensures c.same.result c.if-mark-eq-NONE.false c.if-mark-eq-SAME.true c.same.ensures

pub returns : goal.returns
returns c = held-opposite c.args.lanes.now c.args.i c.slot_place.result c.args.side c.slot_place.ensures c.opposite.result c.if-mark-eq-NONE.false c.if-mark-eq-SAME.false c.opposite.ensures
