-- `uses::row_uses_outside` meets its contract: the words of row i. Assumes nothing.
use mathlib.Core.Path.{◌∙◌}
use native.Mathlib.Omega.{arith}
use Rattle.lookup.proofs.Laws.{sorted-row, outside-read}
use Rattle.uses.proofs.row_uses_outside.Goals as goal

pub overflow_mul-at : goal.overflow_mul-at
overflow_mul-at c = omega (arith, sorted-row 1024 52 c.args.lanes.now c.requires.0 c.args.i c.requires.1)

pub overflow_add-at : goal.overflow_add-at
overflow_add-at c = omega (arith, sorted-row 1024 52 c.args.lanes.now c.requires.0 c.args.i c.requires.1)

pub overflow_add-at-2 : goal.overflow_add-at-2
overflow_add-at-2 c = omega (arith, sorted-row 1024 52 c.args.lanes.now c.requires.0 c.args.i c.requires.1)

pub offset_bounds-lanes-at : goal.offset_bounds-lanes-at
offset_bounds-lanes-at c = omega (arith, sorted-row 1024 52 c.args.lanes.now c.requires.0 c.args.i c.requires.1)

pub bounds-lanes-at : goal.bounds-lanes-at
bounds-lanes-at c = omega (arith, sorted-row 1024 52 c.args.lanes.now c.requires.0 c.args.i c.requires.1)

pub returns : goal.returns
returns c = c.both.ensures ∙ outside-read c.args.lanes.now c.args.i c.args.boundary c.args.one c.args.other c.both-outside.result c.row_uses.result c.both-outside.ensures c.row_uses.ensures
