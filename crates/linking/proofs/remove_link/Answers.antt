-- `linking::remove_link` meets its contract. Assumes nothing.
use borrow.Author.Rules.{rules}
use native.Mathlib.Omega.{arith}
use mathlib.Core.Path.{refl}
use mathlib.Core.Logic.{inr}
use Rattle.row_tests.proofs.Lanes.{lane_room}
use Rattle.topology.proofs.Linked.{remove-second, remove-both}
use Rattle.linking.proofs.remove_link.Goals as goal

pub overflow_mul-from : goal.overflow_mul-from
overflow_mul-from c = omega (arith, lane_room c.args.lanes.now c.requires.0 c.args.i c.requires.1.0)

pub overflow_add-from : goal.overflow_add-from
overflow_add-from c = omega (arith, lane_room c.args.lanes.now c.requires.0 c.args.i c.requires.1.0)

pub offset_bounds-lanes-i : goal.offset_bounds-lanes-i
offset_bounds-lanes-i c = omega (arith, lane_room c.args.lanes.now c.requires.0 c.args.i c.requires.1.0)

pub bounds-lanes-i : goal.bounds-lanes-i
bounds-lanes-i c = omega (arith, lane_room c.args.lanes.now c.requires.0 c.args.i c.requires.1.0)

pub overflow_mul-to : goal.overflow_mul-to
overflow_mul-to c = omega (arith, lane_room c.args.lanes.now c.requires.0 c.args.j c.requires.1.1)

pub overflow_add-to : goal.overflow_add-to
overflow_add-to c = omega (arith, lane_room c.args.lanes.now c.requires.0 c.args.j c.requires.1.1)

pub offset_bounds-lanes-j : goal.offset_bounds-lanes-j
offset_bounds-lanes-j c = omega (arith, lane_room c.args.lanes.now c.requires.0 c.args.j c.requires.1.1)

pub bounds-lanes-j : goal.bounds-lanes-j
bounds-lanes-j c = omega (arith, lane_room c.args.lanes.now c.requires.0 c.args.j c.requires.1.1)

pub remove_sorted-requires : goal.remove_sorted-requires
remove_sorted-requires c = (c.requires.0, (c.requires.1.0, inr refl))

pub remove_sorted-requires-2 : goal.remove_sorted-requires-2
remove_sorted-requires-2 c = remove-second c.args.lanes.now c.requires.0 c.args.i c.args.j c.requires.1.0 c.requires.1.1 c.remove_sorted.new.lanes c.remove_sorted.ensures

pub returns : goal.returns
returns c = remove-both c.args.lanes.now c.requires.0 c.args.i c.args.j c.requires.1.0 c.requires.1.1 c.remove_sorted.new.lanes c.remove_sorted-2.new.lanes c.remove_sorted.ensures c.remove_sorted-2.ensures
