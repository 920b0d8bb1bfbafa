-- `edit::links::link_room` meets its contract. Assumes nothing.
use borrow.Author.Rules.{rules}
use native.Mathlib.Omega.{arith}
use Rattle.row_tests.proofs.Lanes.{lane_room}
use Rattle.relink.proofs.Linking.{room-by-counts}
use Rattle.relink.proofs.links.link_room.Goals as goal

pub overflow_mul-i : goal.overflow_mul-i
overflow_mul-i c = omega (arith, lane_room c.args.lanes.now c.requires.0 c.args.i c.requires.1.0)

pub overflow_add-i : goal.overflow_add-i
overflow_add-i c = omega (arith, lane_room c.args.lanes.now c.requires.0 c.args.i c.requires.1.0)

pub overflow_add-i-2 : goal.overflow_add-i-2
overflow_add-i-2 c = omega (arith, lane_room c.args.lanes.now c.requires.0 c.args.i c.requires.1.0)

pub offset_bounds-lanes-i : goal.offset_bounds-lanes-i
offset_bounds-lanes-i c = omega (arith, lane_room c.args.lanes.now c.requires.0 c.args.i c.requires.1.0)

pub bounds-lanes-i : goal.bounds-lanes-i
bounds-lanes-i c = omega (arith, lane_room c.args.lanes.now c.requires.0 c.args.i c.requires.1.0)

pub overflow_mul-j : goal.overflow_mul-j
overflow_mul-j c = omega (arith, lane_room c.args.lanes.now c.requires.0 c.args.j c.requires.1.1)

pub overflow_add-j : goal.overflow_add-j
overflow_add-j c = omega (arith, lane_room c.args.lanes.now c.requires.0 c.args.j c.requires.1.1)

pub overflow_add-j-2 : goal.overflow_add-j-2
overflow_add-j-2 c = omega (arith, lane_room c.args.lanes.now c.requires.0 c.args.j c.requires.1.1)

pub offset_bounds-lanes-j : goal.offset_bounds-lanes-j
offset_bounds-lanes-j c = omega (arith, lane_room c.args.lanes.now c.requires.0 c.args.j c.requires.1.1)

pub bounds-lanes-j : goal.bounds-lanes-j
bounds-lanes-j c = omega (arith, lane_room c.args.lanes.now c.requires.0 c.args.j c.requires.1.1)

pub returns : goal.returns
returns c = room-by-counts c.args.lanes.now c.args.i c.args.j c.requires.0 c.requires.1.0 c.requires.1.1 c.args.linked c.both.result c.if-linked.false c.both.ensures
