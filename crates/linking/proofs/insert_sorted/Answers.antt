-- `linking::insert_sorted` meets its contract. Assumes nothing.
use borrow.Author.Rules.{rules}
use native.Mathlib.Omega.{arith}
use Rattle.topology.proofs.Table.{links-room}
use Rattle.topology.proofs.Links.{insert-may, insert-leaves, list_count}
use Rattle.linking.proofs.insert_sorted.Goals as goal

pub overflow_mul-at : goal.overflow_mul-at
overflow_mul-at c = omega (arith, links-room c.args.lanes.now c.requires.0 c.args.i c.args.k c.requires.1.0 c.requires.1.1.0)

pub overflow_add-at : goal.overflow_add-at
overflow_add-at c = omega (arith, links-room c.args.lanes.now c.requires.0 c.args.i c.args.k c.requires.1.0 c.requires.1.1.0)

pub overflow_add-at-2 : goal.overflow_add-at-2
overflow_add-at-2 c = omega (arith, links-room c.args.lanes.now c.requires.0 c.args.i c.args.k c.requires.1.0 c.requires.1.1.0)

pub offset_bounds-lanes-at : goal.offset_bounds-lanes-at
offset_bounds-lanes-at c = omega (arith, links-room c.args.lanes.now c.requires.0 c.args.i c.args.k c.requires.1.0 c.requires.1.1.0)

pub bounds-lanes-at : goal.bounds-lanes-at
bounds-lanes-at c = omega (arith, links-room c.args.lanes.now c.requires.0 c.args.i c.args.k c.requires.1.0 c.requires.1.1.0)

pub overflow_add-from : goal.overflow_add-from
overflow_add-from c = omega (arith, links-room c.args.lanes.now c.requires.0 c.args.i c.args.k c.requires.1.0 c.requires.1.1.0)

pub overflow_add-to : goal.overflow_add-to
overflow_add-to c = omega (arith, links-room c.args.lanes.now c.requires.0 c.args.i c.args.k c.requires.1.0 c.requires.1.1.0)

pub offset_bounds-lanes-from : goal.offset_bounds-lanes-from
offset_bounds-lanes-from c = omega (arith, links-room c.args.lanes.now c.requires.0 c.args.i c.args.k c.requires.1.0 c.requires.1.1.0)

pub slice_bounds-insert-end : goal.slice_bounds-insert-end
slice_bounds-insert-end c = omega (arith, links-room c.args.lanes.now c.requires.0 c.args.i c.args.k c.requires.1.0 c.requires.1.1.0)

pub insert-requires : goal.insert-requires
insert-requires c = insert-may c.args.lanes.now c.requires.0 c.args.i c.args.k c.requires.1.0 c.requires.1.1.0 c.args.id c.requires.1.1.1

pub overflow_add-lanes : goal.overflow_add-lanes
overflow_add-lanes c = omega (arith, (list_count c.args.lanes.now c.requires.0 c.args.i c.args.k c.requires.1.0 c.requires.1.1.0).0, (list_count c.args.lanes.now c.requires.0 c.args.i c.args.k c.requires.1.0 c.requires.1.1.0).1)

pub offset_bounds-lanes-at-2 : goal.offset_bounds-lanes-at-2
offset_bounds-lanes-at-2 c = omega (arith, links-room c.args.lanes.now c.requires.0 c.args.i c.args.k c.requires.1.0 c.requires.1.1.0)

pub bounds-lanes-at-2 : goal.bounds-lanes-at-2
bounds-lanes-at-2 c = (insert-leaves c.args.lanes.now c.requires.0 c.args.i c.args.k c.requires.1.0 c.requires.1.1.0 c.args.id c.insert.new.slots c.requires.1.1.1 c.insert.ensures).0

pub returns : goal.returns
returns c = (insert-leaves c.args.lanes.now c.requires.0 c.args.i c.args.k c.requires.1.0 c.requires.1.1.0 c.args.id c.insert.new.slots c.requires.1.1.1 c.insert.ensures).1
