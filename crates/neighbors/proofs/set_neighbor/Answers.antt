-- `neighbors::set_neighbor` meets its contract. Assumes nothing.
use borrow.Author.Rules.{rules}
use native.Mathlib.Omega.{arith}
use Rattle.row_tests.proofs.Lanes.{lane_room}
use Rattle.topology.proofs.Neighbors.{set_search1, set_may2, set_may3, set_both}
use Rattle.neighbors.proofs.set_neighbor.Goals as goal

pub overflow_mul-from : goal.overflow_mul-from
overflow_mul-from c = omega (arith, lane_room c.args.lanes.now c.requires.0 c.args.i c.requires.1.0)

pub overflow_add-from : goal.overflow_add-from
overflow_add-from c = omega (arith, lane_room c.args.lanes.now c.requires.0 c.args.i c.requires.1.0)

pub offset_bounds-lanes-i : goal.offset_bounds-lanes-i
offset_bounds-lanes-i c = omega (arith, lane_room c.args.lanes.now c.requires.0 c.args.i c.requires.1.0)

pub bounds-lanes-i : goal.bounds-lanes-i
bounds-lanes-i c = omega (arith, lane_room c.args.lanes.now c.requires.0 c.args.i c.requires.1.0)

pub overflow_mul-to : goal.overflow_mul-to
overflow_mul-to c = omega (arith, lane_room c.args.lanes.now c.requires.0 c.args.j c.requires.1.1.0)

pub overflow_add-to : goal.overflow_add-to
overflow_add-to c = omega (arith, lane_room c.args.lanes.now c.requires.0 c.args.j c.requires.1.1.0)

pub offset_bounds-lanes-j : goal.offset_bounds-lanes-j
offset_bounds-lanes-j c = omega (arith, lane_room c.args.lanes.now c.requires.0 c.args.j c.requires.1.1.0)

pub bounds-lanes-j : goal.bounds-lanes-j
bounds-lanes-j c = omega (arith, lane_room c.args.lanes.now c.requires.0 c.args.j c.requires.1.1.0)

pub free_answer-requires-2 : goal.free_answer-requires-2
free_answer-requires-2 c = set_search1 c.args.lanes.now c.requires.0 c.args.i c.args.j c.requires.1.0 c.requires.1.1.0 c.requires.1.1.1 c.args.side c.reciprocal_side-answer.result c.args.direction c.reciprocal_side-answer.ensures c.neighbor-old.result c.neighbor-other.result c.neighbor-old.ensures c.neighbor-other.ensures c.free_answer.new.lanes c.free_answer.ensures

pub put_slot-requires : goal.put_slot-requires
put_slot-requires c = set_may2 c.args.lanes.now c.requires.0 c.args.i c.args.j c.requires.1.0 c.requires.1.1.0 c.requires.1.1.1 c.args.side c.reciprocal_side-answer.result c.args.direction c.reciprocal_side-answer.ensures c.neighbor-old.result c.neighbor-other.result c.neighbor-old.ensures c.neighbor-other.ensures c.free_answer.new.lanes c.free_answer.ensures c.free_answer-2.new.lanes c.free_answer-2.ensures

pub put_slot-requires-2 : goal.put_slot-requires-2
put_slot-requires-2 c = set_may3 c.args.lanes.now c.requires.0 c.args.i c.args.j c.requires.1.0 c.requires.1.1.0 c.requires.1.1.1 c.args.side c.reciprocal_side-answer.result c.args.direction c.reciprocal_side-answer.ensures c.neighbor-old.result c.neighbor-other.result c.neighbor-old.ensures c.neighbor-other.ensures c.free_answer.new.lanes c.free_answer.ensures c.free_answer-2.new.lanes c.free_answer-2.ensures c.put_slot.new.lanes c.put_slot.ensures

pub returns : goal.returns
returns c = set_both c.args.lanes.now c.requires.0 c.args.i c.args.j c.requires.1.0 c.requires.1.1.0 c.requires.1.1.1 c.args.side c.reciprocal_side-answer.result c.args.direction c.reciprocal_side-answer.ensures c.neighbor-old.result c.neighbor-other.result c.neighbor-old.ensures c.neighbor-other.ensures c.free_answer.new.lanes c.free_answer.ensures c.free_answer-2.new.lanes c.free_answer-2.ensures c.put_slot.new.lanes c.put_slot.ensures c.put_slot-2.new.lanes c.put_slot-2.ensures
