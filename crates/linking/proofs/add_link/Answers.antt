-- `linking::add_link` meets its contract. Assumes nothing.
use borrow.Author.Rules.{rules}
use native.Mathlib.Omega.{arith}
use mathlib.Core.Path.{refl}
use mathlib.Core.Logic.{inr}
use Rattle.row_tests.proofs.Lanes.{lane_room}
use Rattle.topology.proofs.Linked.{add-first, add-second, add-both}
use Rattle.linking.proofs.add_link.Goals as goal

pub overflow_mul-from : goal.overflow_mul-from
overflow_mul-from c = omega (arith, lane_room c.args.lanes.now c.requires.0 c.args.i c.requires.1.0)

pub overflow_add-from : goal.overflow_add-from
overflow_add-from c = omega (arith, lane_room c.args.lanes.now c.requires.0 c.args.i c.requires.1.0)

pub offset_bounds-lanes-i : goal.offset_bounds-lanes-i
offset_bounds-lanes-i c = omega (arith, lane_room c.args.lanes.now c.requires.0 c.args.i c.requires.1.0)

pub bounds-lanes-i : goal.bounds-lanes-i
bounds-lanes-i c = omega (arith, lane_room c.args.lanes.now c.requires.0 c.args.i c.requires.1.0)

pub overflow_mul-to : goal.overflow_mul-to
overflow_mul-to c = omega (arith, lane_room c.args.lanes.now c.requires.0 c.args.j c.requires.1.1.0)

pub overflow_add-to : goal.overflow_add-to
overflow_add-to c = omega (arith, lane_room c.args.lanes.now c.requires.0 c.args.j c.requires.1.1.0)

pub offset_bounds-lanes-j : goal.offset_bounds-lanes-j
offset_bounds-lanes-j c = omega (arith, lane_room c.args.lanes.now c.requires.0 c.args.j c.requires.1.1.0)

pub bounds-lanes-j : goal.bounds-lanes-j
bounds-lanes-j c = omega (arith, lane_room c.args.lanes.now c.requires.0 c.args.j c.requires.1.1.0)

pub insert_sorted-requires : goal.insert_sorted-requires
insert_sorted-requires c = (c.requires.0, (c.requires.1.0, (inr refl, add-first c.args.lanes.now c.requires.0 c.args.i c.args.j c.requires.1.0 c.requires.1.1.0 c.requires.1.1.1.0 c.requires.1.1.1.1)))

pub insert_sorted-requires-2 : goal.insert_sorted-requires-2
insert_sorted-requires-2 c = add-second c.args.lanes.now c.requires.0 c.args.i c.args.j c.requires.1.0 c.requires.1.1.0 c.requires.1.1.1.0 c.requires.1.1.1.1 c.insert_sorted.new.lanes c.insert_sorted.ensures

pub returns : goal.returns
returns c = add-both c.args.lanes.now c.requires.0 c.args.i c.args.j c.requires.1.0 c.requires.1.1.0 c.requires.1.1.1.0 c.requires.1.1.1.1 c.insert_sorted.new.lanes c.insert_sorted-2.new.lanes c.insert_sorted.ensures c.insert_sorted-2.ensures
