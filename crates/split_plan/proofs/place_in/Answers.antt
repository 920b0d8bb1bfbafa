-- `split_plan::place_in` meets its contract: the centreline is read back from where it was written. Assumes nothing.
use borrow.Author.Rules.{rules}
use native.Mathlib.Omega.{arith}
use Rattle.lookup.proofs.Laws.{sorted-row}
use Rattle.split_plan.proofs.Lines.{line_small, line-within, line-lent, placed-there, placed-gone}
use Rattle.split_plan.proofs.place_in.Goals as goal

pub overflow_mul-lane : goal.overflow_mul-lane
overflow_mul-lane c = omega (arith, sorted-row 1024 52 c.args.map.lanes.now c.args.map.drawable.lanes_are_sorted c.args.i c.requires.0)

pub overflow_add-lane : goal.overflow_add-lane
overflow_add-lane c = omega (arith, sorted-row 1024 52 c.args.map.lanes.now c.args.map.drawable.lanes_are_sorted c.args.i c.requires.0)

pub offset_bounds-map-i : goal.offset_bounds-map-i
offset_bounds-map-i c = omega (arith, sorted-row 1024 52 c.args.map.lanes.now c.args.map.drawable.lanes_are_sorted c.args.i c.requires.0)

pub bounds-map-i : goal.bounds-map-i
bounds-map-i c = omega (arith, sorted-row 1024 52 c.args.map.lanes.now c.args.map.drawable.lanes_are_sorted c.args.i c.requires.0)

pub returns-in_default : goal.returns-in_default
returns-in_default c = (placed-gone c.args.map.coordinates.now c.args.map.boundaries.now c.args.map.lanes.now c.args.i c.centerline-found.result c.centerline-found.ensures.0 c.in_default.is c.args.piece c.args.at, c.centerline-found.ensures.1)

pub overflow_mul-end : goal.overflow_mul-end
overflow_mul-end c = omega (arith, line_small c.args.map.coordinates.now c.args.map.boundaries.now c.args.map.lanes.now c.args.i c.args.map.drawable c.requires.0 c.args.line.now c.centerline-found.new.out c.requires.1 c.centerline-found.ensures.1 c.centerline-found.result c.centerline-found.ensures.0 c.in-Some.n c.in-Some.is)

pub slice_bounds-place_on-end : goal.slice_bounds-place_on-end
slice_bounds-place_on-end c = line-within c.args.map.coordinates.now c.args.map.boundaries.now c.args.map.lanes.now c.args.i c.args.map.drawable c.requires.0 c.args.line.now c.centerline-found.new.out c.requires.1 c.centerline-found.ensures.1 c.centerline-found.result c.centerline-found.ensures.0 c.in-Some.n c.in-Some.is

pub slice_bounds-place_on-end-2 : goal.slice_bounds-place_on-end-2
slice_bounds-place_on-end-2 c = line-lent c.args.map.coordinates.now c.args.map.boundaries.now c.args.map.lanes.now c.args.i c.args.map.drawable c.requires.0 c.args.line.now c.centerline-found.new.out c.requires.1 c.centerline-found.ensures.1 c.centerline-found.result c.centerline-found.ensures.0 c.in-Some.n c.in-Some.is

pub returns : goal.returns
returns c = (placed-there c.args.map.coordinates.now c.args.map.boundaries.now c.args.map.lanes.now c.args.i c.args.map.drawable c.requires.0 c.args.line.now c.centerline-found.new.out c.requires.1 c.centerline-found.ensures.1 c.centerline-found.result c.centerline-found.ensures.0 c.in-Some.n c.in-Some.is c.args.piece c.args.at c.place_on.result c.place_on.ensures, c.centerline-found.ensures.1)
