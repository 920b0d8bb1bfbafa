-- `merge_decide::dropped` meets its contract: by the slots that are read. Assumes nothing.
use native.Mathlib.Omega.{arith}
use borrow.Author.Rules.{rules}
use Rattle.lookup.proofs.Laws.{sorted-row}
use Rattle.merge_plan.proofs.Readings.{slot_small, no_neighbor, neighbor_kept, neighbor_dropped}
use Rattle.merge_decide.proofs.dropped.Goals as goal

pub overflow_mul-a : goal.overflow_mul-a
overflow_mul-a c = omega (arith, sorted-row 1024 52 c.args.lanes.now c.requires.0 c.args.i c.requires.1.0, sorted-row 1024 52 c.args.lanes.now c.requires.0 c.args.j c.requires.1.1)

pub overflow_add-a : goal.overflow_add-a
overflow_add-a c = omega (arith, sorted-row 1024 52 c.args.lanes.now c.requires.0 c.args.i c.requires.1.0, sorted-row 1024 52 c.args.lanes.now c.requires.0 c.args.j c.requires.1.1)

pub overflow_mul-b : goal.overflow_mul-b
overflow_mul-b c = omega (arith, sorted-row 1024 52 c.args.lanes.now c.requires.0 c.args.i c.requires.1.0, sorted-row 1024 52 c.args.lanes.now c.requires.0 c.args.j c.requires.1.1)

pub overflow_add-b : goal.overflow_add-b
overflow_add-b c = omega (arith, sorted-row 1024 52 c.args.lanes.now c.requires.0 c.args.i c.requires.1.0, sorted-row 1024 52 c.args.lanes.now c.requires.0 c.args.j c.requires.1.1)

pub overflow_add-b-2 : goal.overflow_add-b-2
overflow_add-b-2 c = omega (arith, sorted-row 1024 52 c.args.lanes.now c.requires.0 c.args.i c.requires.1.0, sorted-row 1024 52 c.args.lanes.now c.requires.0 c.args.j c.requires.1.1, slot_small c.args.lanes.now c.args.i c.args.j c.slot_place-k.result c.args.side c.slot_place-k.ensures)

pub offset_bounds-lanes-b : goal.offset_bounds-lanes-b
offset_bounds-lanes-b c = omega (arith, sorted-row 1024 52 c.args.lanes.now c.requires.0 c.args.i c.requires.1.0, sorted-row 1024 52 c.args.lanes.now c.requires.0 c.args.j c.requires.1.1, slot_small c.args.lanes.now c.args.i c.args.j c.slot_place-k.result c.args.side c.slot_place-k.ensures)

pub bounds-lanes-b : goal.bounds-lanes-b
bounds-lanes-b c = omega (arith, sorted-row 1024 52 c.args.lanes.now c.requires.0 c.args.i c.requires.1.0, sorted-row 1024 52 c.args.lanes.now c.requires.0 c.args.j c.requires.1.1, slot_small c.args.lanes.now c.args.i c.args.j c.slot_place-k.result c.args.side c.slot_place-k.ensures)

pub returns-then-lanes-b-eq-NONE : goal.returns-then-lanes-b-eq-NONE
returns-then-lanes-b-eq-NONE c = no_neighbor c.args.lanes.now c.args.i c.args.j c.slot_place-k.result c.args.side c.slot_place-k.ensures c.if-lanes-b-eq-NONE.true

pub overflow_add-other : goal.overflow_add-other
overflow_add-other c = omega (arith, sorted-row 1024 52 c.args.lanes.now c.requires.0 c.args.i c.requires.1.0, sorted-row 1024 52 c.args.lanes.now c.requires.0 c.args.j c.requires.1.1, slot_small c.args.lanes.now c.args.i c.args.j c.slot_place-k.result c.args.side c.slot_place-k.ensures)

pub overflow_add-other-2 : goal.overflow_add-other-2
overflow_add-other-2 c = omega (arith, sorted-row 1024 52 c.args.lanes.now c.requires.0 c.args.i c.requires.1.0, sorted-row 1024 52 c.args.lanes.now c.requires.0 c.args.j c.requires.1.1, slot_small c.args.lanes.now c.args.i c.args.j c.slot_place-k.result c.args.side c.slot_place-k.ensures)

pub offset_bounds-lanes-b-2 : goal.offset_bounds-lanes-b-2
offset_bounds-lanes-b-2 c = omega (arith, sorted-row 1024 52 c.args.lanes.now c.requires.0 c.args.i c.requires.1.0, sorted-row 1024 52 c.args.lanes.now c.requires.0 c.args.j c.requires.1.1, slot_small c.args.lanes.now c.args.i c.args.j c.slot_place-k.result c.args.side c.slot_place-k.ensures)

pub bounds-lanes-b-2 : goal.bounds-lanes-b-2
bounds-lanes-b-2 c = omega (arith, sorted-row 1024 52 c.args.lanes.now c.requires.0 c.args.i c.requires.1.0, sorted-row 1024 52 c.args.lanes.now c.requires.0 c.args.j c.requires.1.1, slot_small c.args.lanes.now c.args.i c.args.j c.slot_place-k.result c.args.side c.slot_place-k.ensures)

pub overflow_add-a-2 : goal.overflow_add-a-2
overflow_add-a-2 c = omega (arith, sorted-row 1024 52 c.args.lanes.now c.requires.0 c.args.i c.requires.1.0, sorted-row 1024 52 c.args.lanes.now c.requires.0 c.args.j c.requires.1.1, slot_small c.args.lanes.now c.args.i c.args.j c.slot_place-k.result c.args.side c.slot_place-k.ensures)

pub offset_bounds-lanes-a : goal.offset_bounds-lanes-a
offset_bounds-lanes-a c = omega (arith, sorted-row 1024 52 c.args.lanes.now c.requires.0 c.args.i c.requires.1.0, sorted-row 1024 52 c.args.lanes.now c.requires.0 c.args.j c.requires.1.1, slot_small c.args.lanes.now c.args.i c.args.j c.slot_place-k.result c.args.side c.slot_place-k.ensures)

pub bounds-lanes-a : goal.bounds-lanes-a
bounds-lanes-a c = omega (arith, sorted-row 1024 52 c.args.lanes.now c.requires.0 c.args.i c.requires.1.0, sorted-row 1024 52 c.args.lanes.now c.requires.0 c.args.j c.requires.1.1, slot_small c.args.lanes.now c.args.i c.args.j c.slot_place-k.result c.args.side c.slot_place-k.ensures)

pub overflow_add-a-3 : goal.overflow_add-a-3
overflow_add-a-3 c = omega (arith, sorted-row 1024 52 c.args.lanes.now c.requires.0 c.args.i c.requires.1.0, sorted-row 1024 52 c.args.lanes.now c.requires.0 c.args.j c.requires.1.1, slot_small c.args.lanes.now c.args.i c.args.j c.slot_place-k.result c.args.side c.slot_place-k.ensures)

pub overflow_add-a-4 : goal.overflow_add-a-4
overflow_add-a-4 c = omega (arith, sorted-row 1024 52 c.args.lanes.now c.requires.0 c.args.i c.requires.1.0, sorted-row 1024 52 c.args.lanes.now c.requires.0 c.args.j c.requires.1.1, slot_small c.args.lanes.now c.args.i c.args.j c.slot_place-k.result c.args.side c.slot_place-k.ensures)

pub offset_bounds-lanes-a-2 : goal.offset_bounds-lanes-a-2
offset_bounds-lanes-a-2 c = omega (arith, sorted-row 1024 52 c.args.lanes.now c.requires.0 c.args.i c.requires.1.0, sorted-row 1024 52 c.args.lanes.now c.requires.0 c.args.j c.requires.1.1, slot_small c.args.lanes.now c.args.i c.args.j c.slot_place-k.result c.args.side c.slot_place-k.ensures)

pub bounds-lanes-a-2 : goal.bounds-lanes-a-2
bounds-lanes-a-2 c = omega (arith, sorted-row 1024 52 c.args.lanes.now c.requires.0 c.args.i c.requires.1.0, sorted-row 1024 52 c.args.lanes.now c.requires.0 c.args.j c.requires.1.1, slot_small c.args.lanes.now c.args.i c.args.j c.slot_place-k.result c.args.side c.slot_place-k.ensures)

pub returns-then-both : goal.returns-then-both
returns-then-both c = neighbor_kept c.args.lanes.now c.args.i c.args.j c.slot_place-k.result c.args.side c.slot_place-k.ensures c.if-lanes-b-eq-NONE.false c.both.result c.both.ensures c.if-both.true

pub offset_bounds-lanes-a-3 : goal.offset_bounds-lanes-a-3
offset_bounds-lanes-a-3 c = omega (arith, sorted-row 1024 52 c.args.lanes.now c.requires.0 c.args.i c.requires.1.0, sorted-row 1024 52 c.args.lanes.now c.requires.0 c.args.j c.requires.1.1)

pub bounds-lanes-a-3 : goal.bounds-lanes-a-3
bounds-lanes-a-3 c = omega (arith, sorted-row 1024 52 c.args.lanes.now c.requires.0 c.args.i c.requires.1.0, sorted-row 1024 52 c.args.lanes.now c.requires.0 c.args.j c.requires.1.1)

pub returns : goal.returns
returns c = neighbor_dropped c.args.lanes.now c.args.i c.args.j c.slot_place-k.result c.args.side c.slot_place-k.ensures c.if-lanes-b-eq-NONE.false c.both.result c.both.ensures c.if-both.false
