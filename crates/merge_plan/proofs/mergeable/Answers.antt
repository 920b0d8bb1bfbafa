-- `merge_plan::mergeable` meets its contract: a formed row's lists have at most 16 ids, and the words that are read are the lanes' ids. Assumes nothing.
use mathlib.Core.Path.{◌∙◌}
use native.Mathlib.Omega.{arith}
use borrow.Author.Rules.{rules}
use Rattle.lookup.proofs.Laws.{sorted-row}
use Rattle.merge_plan.proofs.Readings.{same-lane, other-lane, formed-row}
use Rattle.merge_plan.proofs.mergeable.Goals as goal

pub overflow_mul-first : goal.overflow_mul-first
overflow_mul-first c = omega (arith, sorted-row 1024 52 c.args.lanes.now c.requires.0 c.args.i c.requires.1.1.0, sorted-row 1024 52 c.args.lanes.now c.requires.0 c.args.j c.requires.1.1.1)

pub overflow_add-first : goal.overflow_add-first
overflow_add-first c = omega (arith, sorted-row 1024 52 c.args.lanes.now c.requires.0 c.args.i c.requires.1.1.0, sorted-row 1024 52 c.args.lanes.now c.requires.0 c.args.j c.requires.1.1.1)

pub offset_bounds-lanes-i : goal.offset_bounds-lanes-i
offset_bounds-lanes-i c = omega (arith, sorted-row 1024 52 c.args.lanes.now c.requires.0 c.args.i c.requires.1.1.0, sorted-row 1024 52 c.args.lanes.now c.requires.0 c.args.j c.requires.1.1.1)

pub bounds-lanes-i : goal.bounds-lanes-i
bounds-lanes-i c = omega (arith, sorted-row 1024 52 c.args.lanes.now c.requires.0 c.args.i c.requires.1.1.0, sorted-row 1024 52 c.args.lanes.now c.requires.0 c.args.j c.requires.1.1.1)

pub overflow_mul-second : goal.overflow_mul-second
overflow_mul-second c = omega (arith, sorted-row 1024 52 c.args.lanes.now c.requires.0 c.args.i c.requires.1.1.0, sorted-row 1024 52 c.args.lanes.now c.requires.0 c.args.j c.requires.1.1.1)

pub overflow_add-second : goal.overflow_add-second
overflow_add-second c = omega (arith, sorted-row 1024 52 c.args.lanes.now c.requires.0 c.args.i c.requires.1.1.0, sorted-row 1024 52 c.args.lanes.now c.requires.0 c.args.j c.requires.1.1.1)

pub offset_bounds-lanes-j : goal.offset_bounds-lanes-j
offset_bounds-lanes-j c = omega (arith, sorted-row 1024 52 c.args.lanes.now c.requires.0 c.args.i c.requires.1.1.0, sorted-row 1024 52 c.args.lanes.now c.requires.0 c.args.j c.requires.1.1.1)

pub bounds-lanes-j : goal.bounds-lanes-j
bounds-lanes-j c = omega (arith, sorted-row 1024 52 c.args.lanes.now c.requires.0 c.args.i c.requires.1.1.0, sorted-row 1024 52 c.args.lanes.now c.requires.0 c.args.j c.requires.1.1.1)

pub returns-then-first-second : goal.returns-then-first-second
returns-then-first-second c = same-lane c.args.lanes.now c.args.i c.args.j c.if-first-second.true

pub successors-requires : goal.successors-requires
successors-requires c = (c.requires.0, (c.requires.1.1.0, (formed-row c.args.lanes.now c.requires.1.0 c.args.i c.requires.1.1.0).after))

pub predecessors-requires : goal.predecessors-requires
predecessors-requires c = (c.requires.0, (c.requires.1.1.1, (formed-row c.args.lanes.now c.requires.1.0 c.args.j c.requires.1.1.1).before))

pub returns : goal.returns
returns c = c.both.ensures ∙ other-lane c.args.lanes.now c.args.i c.args.j c.if-first-second.false c.successors.result.now c.predecessors.result.now c.successors.ensures c.predecessors.ensures c.only.result c.only-2.result c.only.ensures c.only-2.ensures
