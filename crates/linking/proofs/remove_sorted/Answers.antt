-- `linking::remove_sorted` meets its contract. Assumes nothing.
use borrow.Author.Rules.{rules}
use native.Mathlib.Omega.{arith}
use Rattle.topology.proofs.Table.{links-room}
use Rattle.topology.proofs.Links.{remove-may, remove-leaves}
use Rattle.linking.proofs.remove_sorted.Goals as goal

pub overflow_mul-at : goal.overflow_mul-at
overflow_mul-at c = omega (arith, links-room c.args.lanes.now c.requires.0 c.args.i c.args.k c.requires.1.0 c.requires.1.1)

pub overflow_add-at : goal.overflow_add-at
overflow_add-at c = omega (arith, links-room c.args.lanes.now c.requires.0 c.args.i c.args.k c.requires.1.0 c.requires.1.1)

pub overflow_add-at-2 : goal.overflow_add-at-2
overflow_add-at-2 c = omega (arith, links-room c.args.lanes.now c.requires.0 c.args.i c.args.k c.requires.1.0 c.requires.1.1)

pub offset_bounds-lanes-at : goal.offset_bounds-lanes-at
offset_bounds-lanes-at c = omega (arith, links-room c.args.lanes.now c.requires.0 c.args.i c.args.k c.requires.1.0 c.requires.1.1)

pub bounds-lanes-at : goal.bounds-lanes-at
bounds-lanes-at c = omega (arith, links-room c.args.lanes.now c.requires.0 c.args.i c.args.k c.requires.1.0 c.requires.1.1)

pub overflow_add-from : goal.overflow_add-from
overflow_add-from c = omega (arith, links-room c.args.lanes.now c.requires.0 c.args.i c.args.k c.requires.1.0 c.requires.1.1)

pub overflow_add-to : goal.overflow_add-to
overflow_add-to c = omega (arith, links-room c.args.lanes.now c.requires.0 c.args.i c.args.k c.requires.1.0 c.requires.1.1)

pub offset_bounds-lanes-from : goal.offset_bounds-lanes-from
offset_bounds-lanes-from c = omega (arith, links-room c.args.lanes.now c.requires.0 c.args.i c.args.k c.requires.1.0 c.requires.1.1)

pub slice_bounds-remove-end : goal.slice_bounds-remove-end
slice_bounds-remove-end c = omega (arith, links-room c.args.lanes.now c.requires.0 c.args.i c.args.k c.requires.1.0 c.requires.1.1)

pub remove-left-requires : goal.remove-left-requires
remove-left-requires c = remove-may c.args.lanes.now c.requires.0 c.args.i c.args.k c.requires.1.0 c.requires.1.1

pub offset_bounds-lanes-at-2 : goal.offset_bounds-lanes-at-2
offset_bounds-lanes-at-2 c = omega (arith, links-room c.args.lanes.now c.requires.0 c.args.i c.args.k c.requires.1.0 c.requires.1.1)

pub bounds-lanes-at-2 : goal.bounds-lanes-at-2
bounds-lanes-at-2 c = (remove-leaves c.args.lanes.now c.requires.0 c.args.i c.args.k c.requires.1.0 c.requires.1.1 c.args.id c.remove-left.result c.remove-left.new.slots c.remove-left.ensures.0 c.remove-left.ensures.1).0

pub returns : goal.returns
returns c = (remove-leaves c.args.lanes.now c.requires.0 c.args.i c.args.k c.requires.1.0 c.requires.1.1 c.args.id c.remove-left.result c.remove-left.new.slots c.remove-left.ensures.0 c.remove-left.ensures.1).1
