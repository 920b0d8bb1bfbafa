-- `lane_lines::centerline` meets its contract: by the mark of an explicit centreline. Assumes nothing.
use native.Mathlib.Omega.{arith}
use Rattle.polyline.specs.Polyline.{points}
use Rattle.lookup.proofs.Laws.{sorted-row, written-some}
use Rattle.lookup.proofs.Center.{center_derived, center_explicit, center_stored, center_short, written_as}
use Rattle.lane_lines.proofs.centerline.Goals as goal

pub overflow_mul-at : goal.overflow_mul-at
overflow_mul-at c = omega (arith, sorted-row 1024 52 c.args.map.lanes.now c.args.map.drawable.lanes_are_sorted c.args.i c.requires.0)

pub overflow_add-at : goal.overflow_add-at
overflow_add-at c = omega (arith, sorted-row 1024 52 c.args.map.lanes.now c.args.map.drawable.lanes_are_sorted c.args.i c.requires.0)

pub overflow_add-at-2 : goal.overflow_add-at-2
overflow_add-at-2 c = omega (arith, sorted-row 1024 52 c.args.map.lanes.now c.args.map.drawable.lanes_are_sorted c.args.i c.requires.0)

pub offset_bounds-map-at : goal.offset_bounds-map-at
offset_bounds-map-at c = omega (arith, sorted-row 1024 52 c.args.map.lanes.now c.args.map.drawable.lanes_are_sorted c.args.i c.requires.0)

pub bounds-map-at : goal.bounds-map-at
bounds-map-at c = omega (arith, sorted-row 1024 52 c.args.map.lanes.now c.args.map.drawable.lanes_are_sorted c.args.i c.requires.0)

pub returns-then-map-at-eq0 : goal.returns-then-map-at-eq0
returns-then-map-at-eq0 c = written_as _ _ c.derived.result c.args.out.now _ (center_derived c.args.map.coordinates.now c.args.map.boundaries.now c.args.map.lanes.now c.args.i c.if-map-at-eq0.true) c.derived.ensures

pub overflow_add-at-3 : goal.overflow_add-at-3
overflow_add-at-3 c = omega (arith, sorted-row 1024 52 c.args.map.lanes.now c.args.map.drawable.lanes_are_sorted c.args.i c.requires.0)

pub line_of-requires : goal.line_of-requires
line_of-requires c = (omega (arith, sorted-row 1024 52 c.args.map.lanes.now c.args.map.drawable.lanes_are_sorted c.args.i c.requires.0), center_stored c.args.map.coordinates.now c.args.map.boundaries.now c.args.map.lanes.now c.args.i c.if-map-at-eq0.false c.args.map.drawable.centers_are_stored c.requires.0)

pub copied-requires : goal.copied-requires
copied-requires c = center_short c.args.map.coordinates.now c.args.map.boundaries.now c.args.map.lanes.now c.args.i c.if-map-at-eq0.false c.args.map.drawable.centers_are_stored c.requires.0 c.line_of.result.now c.line_of.ensures _ c.requires.1

pub returns : goal.returns
returns c = written-some _ (points c.line_of.result.now) c.copied.result c.args.out.now _ (center_explicit c.args.map.coordinates.now c.args.map.boundaries.now c.args.map.lanes.now c.args.i c.if-map-at-eq0.false c.line_of.result.now c.line_of.ensures) c.copied.ensures.0 c.copied.ensures.1
