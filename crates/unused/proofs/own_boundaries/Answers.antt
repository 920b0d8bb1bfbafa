-- `unused::own_boundaries` meets its contract. Assumes nothing.
use borrow.Author.Rules.{rules}
use native.Mathlib.Omega.{arith}
use Rattle.lookup.proofs.Laws.{sorted-row}
use Rattle.unused.proofs.Boundaries.{own-gone}
use Rattle.unused.proofs.own_boundaries.Goals as goal

pub overflow_mul-at : goal.overflow_mul-at
overflow_mul-at c = omega (arith, sorted-row 1024 52 c.args.lanes.now c.requires.0 c.args.i c.requires.1.0)

pub overflow_add-at : goal.overflow_add-at
overflow_add-at c = omega (arith, sorted-row 1024 52 c.args.lanes.now c.requires.0 c.args.i c.requires.1.0)

pub offset_bounds-lanes-at : goal.offset_bounds-lanes-at
offset_bounds-lanes-at c = omega (arith, sorted-row 1024 52 c.args.lanes.now c.requires.0 c.args.i c.requires.1.0)

pub bounds-lanes-at : goal.bounds-lanes-at
bounds-lanes-at c = omega (arith, sorted-row 1024 52 c.args.lanes.now c.requires.0 c.args.i c.requires.1.0)

pub overflow_add-left : goal.overflow_add-left
overflow_add-left c = omega (arith, sorted-row 1024 52 c.args.lanes.now c.requires.0 c.args.i c.requires.1.0)

pub offset_bounds-lanes-at-2 : goal.offset_bounds-lanes-at-2
offset_bounds-lanes-at-2 c = omega (arith, sorted-row 1024 52 c.args.lanes.now c.requires.0 c.args.i c.requires.1.0)

pub bounds-lanes-at-2 : goal.bounds-lanes-at-2
bounds-lanes-at-2 c = omega (arith, sorted-row 1024 52 c.args.lanes.now c.requires.0 c.args.i c.requires.1.0)

pub overflow_add-right : goal.overflow_add-right
overflow_add-right c = omega (arith, sorted-row 1024 52 c.args.lanes.now c.requires.0 c.args.i c.requires.1.0)

pub offset_bounds-lanes-at-3 : goal.offset_bounds-lanes-at-3
offset_bounds-lanes-at-3 c = omega (arith, sorted-row 1024 52 c.args.lanes.now c.requires.0 c.args.i c.requires.1.0)

pub bounds-lanes-at-3 : goal.bounds-lanes-at-3
bounds-lanes-at-3 c = omega (arith, sorted-row 1024 52 c.args.lanes.now c.requires.0 c.args.i c.requires.1.0)

pub returns : goal.returns
returns c = let a = c.args in own-gone a.lanes.now a.i a.boundaries.now c.chosen.result c.lonely-a.result c.lonely-b.result c.requires.1.1 c.lonely-a.ensures c.lonely-b.ensures c.chosen.ensures
