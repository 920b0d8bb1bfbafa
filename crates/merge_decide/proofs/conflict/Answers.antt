-- `merge_decide::conflict` meets its contract: the words that are read are the lanes' kinds, turns and speed limits. Assumes nothing.
use native.Mathlib.Omega.{arith}
use borrow.Author.Rules.{rules}
use Rattle.lookup.proofs.Laws.{sorted-row}
use Rattle.merge_plan.proofs.Readings.{kinds-differ, turns-differ, speeds_left}
use Rattle.merge_decide.proofs.conflict.Goals as goal

pub overflow_mul-a : goal.overflow_mul-a
overflow_mul-a c = omega (arith, sorted-row 1024 52 c.args.lanes.now c.requires.0 c.args.i c.requires.1.0, sorted-row 1024 52 c.args.lanes.now c.requires.0 c.args.j c.requires.1.1)

pub overflow_add-a : goal.overflow_add-a
overflow_add-a c = omega (arith, sorted-row 1024 52 c.args.lanes.now c.requires.0 c.args.i c.requires.1.0, sorted-row 1024 52 c.args.lanes.now c.requires.0 c.args.j c.requires.1.1)

pub overflow_mul-b : goal.overflow_mul-b
overflow_mul-b c = omega (arith, sorted-row 1024 52 c.args.lanes.now c.requires.0 c.args.i c.requires.1.0, sorted-row 1024 52 c.args.lanes.now c.requires.0 c.args.j c.requires.1.1)

pub overflow_add-b : goal.overflow_add-b
overflow_add-b c = omega (arith, sorted-row 1024 52 c.args.lanes.now c.requires.0 c.args.i c.requires.1.0, sorted-row 1024 52 c.args.lanes.now c.requires.0 c.args.j c.requires.1.1)

pub overflow_add-a-2 : goal.overflow_add-a-2
overflow_add-a-2 c = omega (arith, sorted-row 1024 52 c.args.lanes.now c.requires.0 c.args.i c.requires.1.0, sorted-row 1024 52 c.args.lanes.now c.requires.0 c.args.j c.requires.1.1)

pub offset_bounds-lanes-a : goal.offset_bounds-lanes-a
offset_bounds-lanes-a c = omega (arith, sorted-row 1024 52 c.args.lanes.now c.requires.0 c.args.i c.requires.1.0, sorted-row 1024 52 c.args.lanes.now c.requires.0 c.args.j c.requires.1.1)

pub bounds-lanes-a : goal.bounds-lanes-a
bounds-lanes-a c = omega (arith, sorted-row 1024 52 c.args.lanes.now c.requires.0 c.args.i c.requires.1.0, sorted-row 1024 52 c.args.lanes.now c.requires.0 c.args.j c.requires.1.1)

pub overflow_add-b-2 : goal.overflow_add-b-2
overflow_add-b-2 c = omega (arith, sorted-row 1024 52 c.args.lanes.now c.requires.0 c.args.i c.requires.1.0, sorted-row 1024 52 c.args.lanes.now c.requires.0 c.args.j c.requires.1.1)

pub offset_bounds-lanes-b : goal.offset_bounds-lanes-b
offset_bounds-lanes-b c = omega (arith, sorted-row 1024 52 c.args.lanes.now c.requires.0 c.args.i c.requires.1.0, sorted-row 1024 52 c.args.lanes.now c.requires.0 c.args.j c.requires.1.1)

pub bounds-lanes-b : goal.bounds-lanes-b
bounds-lanes-b c = omega (arith, sorted-row 1024 52 c.args.lanes.now c.requires.0 c.args.i c.requires.1.0, sorted-row 1024 52 c.args.lanes.now c.requires.0 c.args.j c.requires.1.1)

pub returns-then-lanes-a : goal.returns-then-lanes-a
returns-then-lanes-a c = kinds-differ c.args.lanes.now c.args.i c.args.j c.if-lanes-a.true

pub overflow_add-a-3 : goal.overflow_add-a-3
overflow_add-a-3 c = omega (arith, sorted-row 1024 52 c.args.lanes.now c.requires.0 c.args.i c.requires.1.0, sorted-row 1024 52 c.args.lanes.now c.requires.0 c.args.j c.requires.1.1)

pub offset_bounds-lanes-a-2 : goal.offset_bounds-lanes-a-2
offset_bounds-lanes-a-2 c = omega (arith, sorted-row 1024 52 c.args.lanes.now c.requires.0 c.args.i c.requires.1.0, sorted-row 1024 52 c.args.lanes.now c.requires.0 c.args.j c.requires.1.1)

pub bounds-lanes-a-2 : goal.bounds-lanes-a-2
bounds-lanes-a-2 c = omega (arith, sorted-row 1024 52 c.args.lanes.now c.requires.0 c.args.i c.requires.1.0, sorted-row 1024 52 c.args.lanes.now c.requires.0 c.args.j c.requires.1.1)

pub overflow_add-b-3 : goal.overflow_add-b-3
overflow_add-b-3 c = omega (arith, sorted-row 1024 52 c.args.lanes.now c.requires.0 c.args.i c.requires.1.0, sorted-row 1024 52 c.args.lanes.now c.requires.0 c.args.j c.requires.1.1)

pub offset_bounds-lanes-b-2 : goal.offset_bounds-lanes-b-2
offset_bounds-lanes-b-2 c = omega (arith, sorted-row 1024 52 c.args.lanes.now c.requires.0 c.args.i c.requires.1.0, sorted-row 1024 52 c.args.lanes.now c.requires.0 c.args.j c.requires.1.1)

pub bounds-lanes-b-2 : goal.bounds-lanes-b-2
bounds-lanes-b-2 c = omega (arith, sorted-row 1024 52 c.args.lanes.now c.requires.0 c.args.i c.requires.1.0, sorted-row 1024 52 c.args.lanes.now c.requires.0 c.args.j c.requires.1.1)

pub returns-then-lanes-a-2 : goal.returns-then-lanes-a-2
returns-then-lanes-a-2 c = turns-differ c.args.lanes.now c.args.i c.args.j c.if-lanes-a-2.true

pub overflow_add-one : goal.overflow_add-one
overflow_add-one c = omega (arith, sorted-row 1024 52 c.args.lanes.now c.requires.0 c.args.i c.requires.1.0, sorted-row 1024 52 c.args.lanes.now c.requires.0 c.args.j c.requires.1.1)

pub overflow_add-two : goal.overflow_add-two
overflow_add-two c = omega (arith, sorted-row 1024 52 c.args.lanes.now c.requires.0 c.args.i c.requires.1.0, sorted-row 1024 52 c.args.lanes.now c.requires.0 c.args.j c.requires.1.1)

pub offset_bounds-lanes-one : goal.offset_bounds-lanes-one
offset_bounds-lanes-one c = omega (arith, sorted-row 1024 52 c.args.lanes.now c.requires.0 c.args.i c.requires.1.0, sorted-row 1024 52 c.args.lanes.now c.requires.0 c.args.j c.requires.1.1)

pub bounds-lanes-one : goal.bounds-lanes-one
bounds-lanes-one c = omega (arith, sorted-row 1024 52 c.args.lanes.now c.requires.0 c.args.i c.requires.1.0, sorted-row 1024 52 c.args.lanes.now c.requires.0 c.args.j c.requires.1.1)

pub overflow_add-one-2 : goal.overflow_add-one-2
overflow_add-one-2 c = omega (arith, sorted-row 1024 52 c.args.lanes.now c.requires.0 c.args.i c.requires.1.0, sorted-row 1024 52 c.args.lanes.now c.requires.0 c.args.j c.requires.1.1)

pub offset_bounds-lanes-one-2 : goal.offset_bounds-lanes-one-2
offset_bounds-lanes-one-2 c = omega (arith, sorted-row 1024 52 c.args.lanes.now c.requires.0 c.args.i c.requires.1.0, sorted-row 1024 52 c.args.lanes.now c.requires.0 c.args.j c.requires.1.1)

pub bounds-lanes-one-2 : goal.bounds-lanes-one-2
bounds-lanes-one-2 c = omega (arith, sorted-row 1024 52 c.args.lanes.now c.requires.0 c.args.i c.requires.1.0, sorted-row 1024 52 c.args.lanes.now c.requires.0 c.args.j c.requires.1.1)

pub offset_bounds-lanes-two : goal.offset_bounds-lanes-two
offset_bounds-lanes-two c = omega (arith, sorted-row 1024 52 c.args.lanes.now c.requires.0 c.args.i c.requires.1.0, sorted-row 1024 52 c.args.lanes.now c.requires.0 c.args.j c.requires.1.1)

pub bounds-lanes-two : goal.bounds-lanes-two
bounds-lanes-two c = omega (arith, sorted-row 1024 52 c.args.lanes.now c.requires.0 c.args.i c.requires.1.0, sorted-row 1024 52 c.args.lanes.now c.requires.0 c.args.j c.requires.1.1)

pub overflow_add-two-2 : goal.overflow_add-two-2
overflow_add-two-2 c = omega (arith, sorted-row 1024 52 c.args.lanes.now c.requires.0 c.args.i c.requires.1.0, sorted-row 1024 52 c.args.lanes.now c.requires.0 c.args.j c.requires.1.1)

pub offset_bounds-lanes-two-2 : goal.offset_bounds-lanes-two-2
offset_bounds-lanes-two-2 c = omega (arith, sorted-row 1024 52 c.args.lanes.now c.requires.0 c.args.i c.requires.1.0, sorted-row 1024 52 c.args.lanes.now c.requires.0 c.args.j c.requires.1.1)

pub bounds-lanes-two-2 : goal.bounds-lanes-two-2
bounds-lanes-two-2 c = omega (arith, sorted-row 1024 52 c.args.lanes.now c.requires.0 c.args.i c.requires.1.0, sorted-row 1024 52 c.args.lanes.now c.requires.0 c.args.j c.requires.1.1)

pub returns : goal.returns
returns c = speeds_left c.args.lanes.now c.args.i c.args.j c.if-lanes-a.false c.if-lanes-a-2.false c.speeds_differ.result c.speeds_differ.ensures
