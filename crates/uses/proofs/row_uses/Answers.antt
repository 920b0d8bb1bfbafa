-- `uses::row_uses` meets its contract: the words of row i. Assumes nothing.
use mathlib.Core.Path.{◌∙◌}
use native.Mathlib.Omega.{arith}
use Rattle.lookup.proofs.Laws.{sorted-row, uses-read}
use Rattle.uses.proofs.row_uses.Goals as goal

pub overflow_mul-at : goal.overflow_mul-at
overflow_mul-at c = omega (arith, sorted-row 1024 52 c.args.lanes.now c.requires.0 c.args.i c.requires.1)

pub overflow_add-at : goal.overflow_add-at
overflow_add-at c = omega (arith, sorted-row 1024 52 c.args.lanes.now c.requires.0 c.args.i c.requires.1)

pub overflow_add-at-2 : goal.overflow_add-at-2
overflow_add-at-2 c = omega (arith, sorted-row 1024 52 c.args.lanes.now c.requires.0 c.args.i c.requires.1)

pub offset_bounds-lanes-at : goal.offset_bounds-lanes-at
offset_bounds-lanes-at c = omega (arith, sorted-row 1024 52 c.args.lanes.now c.requires.0 c.args.i c.requires.1)

pub bounds-lanes-at : goal.bounds-lanes-at
bounds-lanes-at c = omega (arith, sorted-row 1024 52 c.args.lanes.now c.requires.0 c.args.i c.requires.1)

pub overflow_add-at-3 : goal.overflow_add-at-3
overflow_add-at-3 c = omega (arith, sorted-row 1024 52 c.args.lanes.now c.requires.0 c.args.i c.requires.1)

pub offset_bounds-lanes-at-2 : goal.offset_bounds-lanes-at-2
offset_bounds-lanes-at-2 c = omega (arith, sorted-row 1024 52 c.args.lanes.now c.requires.0 c.args.i c.requires.1)

pub bounds-lanes-at-2 : goal.bounds-lanes-at-2
bounds-lanes-at-2 c = omega (arith, sorted-row 1024 52 c.args.lanes.now c.requires.0 c.args.i c.requires.1)

pub returns : goal.returns
returns c = c.either.ensures ∙ uses-read c.args.lanes.now c.args.i c.args.boundary
