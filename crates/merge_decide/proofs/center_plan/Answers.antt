-- `merge_decide::center_plan` meets its contract: by the marks of the explicit centrelines. Assumes nothing.
use native.Mathlib.Omega.{arith}
use borrow.Author.Rules.{rules}
use Rattle.lookup.proofs.Laws.{sorted-row}
use Rattle.merge_plan.proofs.Readings.{center_lent, center_few, first_uncentered, second_uncentered, centers-meet, centers-joined}
use Rattle.merge_decide.proofs.center_plan.Goals as goal

pub overflow_mul-a : goal.overflow_mul-a
overflow_mul-a c = omega (arith, sorted-row 1024 52 c.args.lanes.now c.requires.0 c.args.i c.requires.1.1.0, sorted-row 1024 52 c.args.lanes.now c.requires.0 c.args.j c.requires.1.1.1)

pub overflow_add-a : goal.overflow_add-a
overflow_add-a c = omega (arith, sorted-row 1024 52 c.args.lanes.now c.requires.0 c.args.i c.requires.1.1.0, sorted-row 1024 52 c.args.lanes.now c.requires.0 c.args.j c.requires.1.1.1)

pub overflow_mul-b : goal.overflow_mul-b
overflow_mul-b c = omega (arith, sorted-row 1024 52 c.args.lanes.now c.requires.0 c.args.i c.requires.1.1.0, sorted-row 1024 52 c.args.lanes.now c.requires.0 c.args.j c.requires.1.1.1)

pub overflow_add-b : goal.overflow_add-b
overflow_add-b c = omega (arith, sorted-row 1024 52 c.args.lanes.now c.requires.0 c.args.i c.requires.1.1.0, sorted-row 1024 52 c.args.lanes.now c.requires.0 c.args.j c.requires.1.1.1)

pub overflow_add-a-2 : goal.overflow_add-a-2
overflow_add-a-2 c = omega (arith, sorted-row 1024 52 c.args.lanes.now c.requires.0 c.args.i c.requires.1.1.0, sorted-row 1024 52 c.args.lanes.now c.requires.0 c.args.j c.requires.1.1.1)

pub offset_bounds-lanes-a : goal.offset_bounds-lanes-a
offset_bounds-lanes-a c = omega (arith, sorted-row 1024 52 c.args.lanes.now c.requires.0 c.args.i c.requires.1.1.0, sorted-row 1024 52 c.args.lanes.now c.requires.0 c.args.j c.requires.1.1.1)

pub bounds-lanes-a : goal.bounds-lanes-a
bounds-lanes-a c = omega (arith, sorted-row 1024 52 c.args.lanes.now c.requires.0 c.args.i c.requires.1.1.0, sorted-row 1024 52 c.args.lanes.now c.requires.0 c.args.j c.requires.1.1.1)

pub returns-then-lanes-a-eq0 : goal.returns-then-lanes-a-eq0
returns-then-lanes-a-eq0 c = first_uncentered c.args.join c.args.coordinates.now c.args.lanes.now c.args.i c.args.j c.if-lanes-a-eq0.true

pub overflow_add-b-2 : goal.overflow_add-b-2
overflow_add-b-2 c = omega (arith, sorted-row 1024 52 c.args.lanes.now c.requires.0 c.args.i c.requires.1.1.0, sorted-row 1024 52 c.args.lanes.now c.requires.0 c.args.j c.requires.1.1.1)

pub offset_bounds-lanes-b : goal.offset_bounds-lanes-b
offset_bounds-lanes-b c = omega (arith, sorted-row 1024 52 c.args.lanes.now c.requires.0 c.args.i c.requires.1.1.0, sorted-row 1024 52 c.args.lanes.now c.requires.0 c.args.j c.requires.1.1.1)

pub bounds-lanes-b : goal.bounds-lanes-b
bounds-lanes-b c = omega (arith, sorted-row 1024 52 c.args.lanes.now c.requires.0 c.args.i c.requires.1.1.0, sorted-row 1024 52 c.args.lanes.now c.requires.0 c.args.j c.requires.1.1.1)

pub returns-then-lanes-b-eq0 : goal.returns-then-lanes-b-eq0
returns-then-lanes-b-eq0 c = second_uncentered c.args.join c.args.coordinates.now c.args.lanes.now c.args.i c.args.j c.if-lanes-b-eq0.true

pub overflow_add-a-3 : goal.overflow_add-a-3
overflow_add-a-3 c = omega (arith, sorted-row 1024 52 c.args.lanes.now c.requires.0 c.args.i c.requires.1.1.0, sorted-row 1024 52 c.args.lanes.now c.requires.0 c.args.j c.requires.1.1.1)

pub line_of-requires : goal.line_of-requires
line_of-requires c = (omega (arith, sorted-row 1024 52 c.args.lanes.now c.requires.0 c.args.i c.requires.1.1.0, sorted-row 1024 52 c.args.lanes.now c.requires.0 c.args.j c.requires.1.1.1), center_lent c.args.coordinates.now c.args.lanes.now c.args.i c.if-lanes-a-eq0.false c.requires.1.0 c.requires.1.1.0)

pub overflow_add-b-3 : goal.overflow_add-b-3
overflow_add-b-3 c = omega (arith, sorted-row 1024 52 c.args.lanes.now c.requires.0 c.args.i c.requires.1.1.0, sorted-row 1024 52 c.args.lanes.now c.requires.0 c.args.j c.requires.1.1.1)

pub line_of-requires-2 : goal.line_of-requires-2
line_of-requires-2 c = (omega (arith, sorted-row 1024 52 c.args.lanes.now c.requires.0 c.args.i c.requires.1.1.0, sorted-row 1024 52 c.args.lanes.now c.requires.0 c.args.j c.requires.1.1.1), center_lent c.args.coordinates.now c.args.lanes.now c.args.j c.if-lanes-b-eq0.false c.requires.1.0 c.requires.1.1.1)

pub overflow_add-one : goal.overflow_add-one
overflow_add-one c = omega (arith, sorted-row 1024 52 c.args.lanes.now c.requires.0 c.args.i c.requires.1.1.0, sorted-row 1024 52 c.args.lanes.now c.requires.0 c.args.j c.requires.1.1.1)

pub offset_bounds-lanes-a-2 : goal.offset_bounds-lanes-a-2
offset_bounds-lanes-a-2 c = omega (arith, sorted-row 1024 52 c.args.lanes.now c.requires.0 c.args.i c.requires.1.1.0, sorted-row 1024 52 c.args.lanes.now c.requires.0 c.args.j c.requires.1.1.1)

pub bounds-lanes-a-2 : goal.bounds-lanes-a-2
bounds-lanes-a-2 c = omega (arith, sorted-row 1024 52 c.args.lanes.now c.requires.0 c.args.i c.requires.1.1.0, sorted-row 1024 52 c.args.lanes.now c.requires.0 c.args.j c.requires.1.1.1)

pub overflow_add-two : goal.overflow_add-two
overflow_add-two c = omega (arith, sorted-row 1024 52 c.args.lanes.now c.requires.0 c.args.i c.requires.1.1.0, sorted-row 1024 52 c.args.lanes.now c.requires.0 c.args.j c.requires.1.1.1)

pub offset_bounds-lanes-b-2 : goal.offset_bounds-lanes-b-2
offset_bounds-lanes-b-2 c = omega (arith, sorted-row 1024 52 c.args.lanes.now c.requires.0 c.args.i c.requires.1.1.0, sorted-row 1024 52 c.args.lanes.now c.requires.0 c.args.j c.requires.1.1.1)

pub bounds-lanes-b-2 : goal.bounds-lanes-b-2
bounds-lanes-b-2 c = omega (arith, sorted-row 1024 52 c.args.lanes.now c.requires.0 c.args.i c.requires.1.1.0, sorted-row 1024 52 c.args.lanes.now c.requires.0 c.args.j c.requires.1.1.1)

pub overflow_add-result : goal.overflow_add-result
overflow_add-result c = omega (arith, center_few c.args.coordinates.now c.args.lanes.now c.args.i c.if-lanes-a-eq0.false c.requires.1.0 c.requires.1.1.0, center_few c.args.coordinates.now c.args.lanes.now c.args.j c.if-lanes-b-eq0.false c.requires.1.0 c.requires.1.1.1)

pub overflow_sub-result : goal.overflow_sub-result
overflow_sub-result c = omega (arith, centers-meet c.args.join c.args.coordinates.now c.args.lanes.now c.args.i c.args.j c.requires.1.0 c.requires.1.1.0 c.requires.1.1.1 c.if-lanes-a-eq0.false c.if-lanes-b-eq0.false c.line_of.result.now c.line_of-2.result.now c.line_of.ensures c.line_of-2.ensures c.last-end.result c.first-start.result c.last-end.ensures c.first-start.ensures c.meeting.result c.meeting.ensures)

pub returns : goal.returns
returns c = centers-joined c.args.join c.args.coordinates.now c.args.lanes.now c.args.i c.args.j c.requires.1.0 c.requires.1.1.0 c.requires.1.1.1 c.if-lanes-a-eq0.false c.if-lanes-b-eq0.false c.line_of.result.now c.line_of-2.result.now c.line_of.ensures c.line_of-2.ensures c.last-end.result c.first-start.result c.last-end.ensures c.first-start.ensures c.meeting.result c.meeting.ensures
