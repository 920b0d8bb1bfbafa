-- `merge_plan::alone` meets its contract: no other lane uses either boundary. Assumes nothing.
use native.Mathlib.Omega.{arith}
use borrow.Author.Rules.{rules}
use Rattle.lookup.proofs.Laws.{sorted-row}
use Rattle.merge_plan.proofs.Laws.{first-shared, first_alone}
use Rattle.merge_plan.proofs.alone.Goals as goal

pub overflow_mul-first : goal.overflow_mul-first
overflow_mul-first c = omega (arith, sorted-row 1024 52 c.args.lanes.now c.requires.0 c.args.i c.requires.1.0, sorted-row 1024 52 c.args.lanes.now c.requires.0 c.args.j c.requires.1.1)

pub overflow_add-first : goal.overflow_add-first
overflow_add-first c = omega (arith, sorted-row 1024 52 c.args.lanes.now c.requires.0 c.args.i c.requires.1.0, sorted-row 1024 52 c.args.lanes.now c.requires.0 c.args.j c.requires.1.1)

pub offset_bounds-lanes-i : goal.offset_bounds-lanes-i
offset_bounds-lanes-i c = omega (arith, sorted-row 1024 52 c.args.lanes.now c.requires.0 c.args.i c.requires.1.0, sorted-row 1024 52 c.args.lanes.now c.requires.0 c.args.j c.requires.1.1)

pub bounds-lanes-i : goal.bounds-lanes-i
bounds-lanes-i c = omega (arith, sorted-row 1024 52 c.args.lanes.now c.requires.0 c.args.i c.requires.1.0, sorted-row 1024 52 c.args.lanes.now c.requires.0 c.args.j c.requires.1.1)

pub overflow_mul-second : goal.overflow_mul-second
overflow_mul-second c = omega (arith, sorted-row 1024 52 c.args.lanes.now c.requires.0 c.args.i c.requires.1.0, sorted-row 1024 52 c.args.lanes.now c.requires.0 c.args.j c.requires.1.1)

pub overflow_add-second : goal.overflow_add-second
overflow_add-second c = omega (arith, sorted-row 1024 52 c.args.lanes.now c.requires.0 c.args.i c.requires.1.0, sorted-row 1024 52 c.args.lanes.now c.requires.0 c.args.j c.requires.1.1)

pub offset_bounds-lanes-j : goal.offset_bounds-lanes-j
offset_bounds-lanes-j c = omega (arith, sorted-row 1024 52 c.args.lanes.now c.requires.0 c.args.i c.requires.1.0, sorted-row 1024 52 c.args.lanes.now c.requires.0 c.args.j c.requires.1.1)

pub bounds-lanes-j : goal.bounds-lanes-j
bounds-lanes-j c = omega (arith, sorted-row 1024 52 c.args.lanes.now c.requires.0 c.args.i c.requires.1.0, sorted-row 1024 52 c.args.lanes.now c.requires.0 c.args.j c.requires.1.1)

pub returns-then-used_besides : goal.returns-then-used_besides
returns-then-used_besides c = first-shared c.args.lanes.now c.args.i c.args.one c.args.j c.args.two c.used_besides.result c.used_besides.ensures c.if-used_besides.true

pub returns : goal.returns
returns c = first_alone c.args.lanes.now c.args.i c.args.one c.args.j c.args.two c.used_besides.result c.used_besides.ensures c.if-used_besides.false c.used_besides-2.result c.used_besides-2.ensures
