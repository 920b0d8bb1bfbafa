-- `lookup::boundary_ref` meets its contract: the words of row i, by side. Assumes nothing.
use native.Mathlib.Omega.{arith}
use Rattle.lookup.proofs.Laws.{sorted-row, side-small, ref-read}
use Rattle.lookup.proofs.boundary_ref.Goals as goal

pub overflow_mul-at : goal.overflow_mul-at
overflow_mul-at c = omega (arith, sorted-row 1024 52 c.args.lanes.now c.requires.0 c.args.i c.requires.1)

pub overflow_add-at : goal.overflow_add-at
overflow_add-at c = omega (arith, sorted-row 1024 52 c.args.lanes.now c.requires.0 c.args.i c.requires.1)

pub overflow_add-at-2 : goal.overflow_add-at-2
overflow_add-at-2 c = omega (arith, sorted-row 1024 52 c.args.lanes.now c.requires.0 c.args.i c.requires.1, side-small c.args.side, c.side_word.ensures)

pub offset_bounds-lanes-at : goal.offset_bounds-lanes-at
offset_bounds-lanes-at c = omega (arith, sorted-row 1024 52 c.args.lanes.now c.requires.0 c.args.i c.requires.1, side-small c.args.side, c.side_word.ensures)

pub bounds-lanes-at : goal.bounds-lanes-at
bounds-lanes-at c = omega (arith, sorted-row 1024 52 c.args.lanes.now c.requires.0 c.args.i c.requires.1, side-small c.args.side, c.side_word.ensures)

pub overflow_add-result : goal.overflow_add-result
overflow_add-result c = omega (arith, sorted-row 1024 52 c.args.lanes.now c.requires.0 c.args.i c.requires.1, side-small c.args.side, c.side_word.ensures)

pub offset_bounds-lanes-at-2 : goal.offset_bounds-lanes-at-2
offset_bounds-lanes-at-2 c = omega (arith, sorted-row 1024 52 c.args.lanes.now c.requires.0 c.args.i c.requires.1, side-small c.args.side, c.side_word.ensures)

pub bounds-lanes-at-2 : goal.bounds-lanes-at-2
bounds-lanes-at-2 c = omega (arith, sorted-row 1024 52 c.args.lanes.now c.requires.0 c.args.i c.requires.1, side-small c.args.side, c.side_word.ensures)

pub returns : goal.returns
returns c = ref-read c.args.lanes.now c.args.i c.side_word.result c.args.side c.side_word.ensures
