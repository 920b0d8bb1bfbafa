-- `merge_decide::joined_points` meets its contract: a stored line has as many points as its row says, and joined lines as many as both but where they meet. Assumes nothing.
use native.Mathlib.Omega.{arith}
use borrow.Author.Rules.{rules}
use Rattle.lookup.specs.Lookup.{side_line}
use Rattle.merge_plan.proofs.Laws.{met-few, joined-long, first-long, second-long, both-few, first-row, second-row}
use Rattle.merge_decide.proofs.joined_points.Goals as goal

pub overflow_mul-one : goal.overflow_mul-one
overflow_mul-one c = omega (arith, first-row c.args.map.lanes.now c.args.i c.args.j c.args.side c.args.map.boundaries.now c.args.x c.args.y c.args.map.coordinates.now c.requires, second-row c.args.map.lanes.now c.args.i c.args.j c.args.side c.args.map.boundaries.now c.args.x c.args.y c.args.map.coordinates.now c.requires)

pub overflow_add-one : goal.overflow_add-one
overflow_add-one c = omega (arith, first-row c.args.map.lanes.now c.args.i c.args.j c.args.side c.args.map.boundaries.now c.args.x c.args.y c.args.map.coordinates.now c.requires, second-row c.args.map.lanes.now c.args.i c.args.j c.args.side c.args.map.boundaries.now c.args.x c.args.y c.args.map.coordinates.now c.requires)

pub overflow_add-one-2 : goal.overflow_add-one-2
overflow_add-one-2 c = omega (arith, first-row c.args.map.lanes.now c.args.i c.args.j c.args.side c.args.map.boundaries.now c.args.x c.args.y c.args.map.coordinates.now c.requires, second-row c.args.map.lanes.now c.args.i c.args.j c.args.side c.args.map.boundaries.now c.args.x c.args.y c.args.map.coordinates.now c.requires)

pub offset_bounds-map-x : goal.offset_bounds-map-x
offset_bounds-map-x c = omega (arith, first-row c.args.map.lanes.now c.args.i c.args.j c.args.side c.args.map.boundaries.now c.args.x c.args.y c.args.map.coordinates.now c.requires, second-row c.args.map.lanes.now c.args.i c.args.j c.args.side c.args.map.boundaries.now c.args.x c.args.y c.args.map.coordinates.now c.requires)

pub bounds-map-x : goal.bounds-map-x
bounds-map-x c = omega (arith, first-row c.args.map.lanes.now c.args.i c.args.j c.args.side c.args.map.boundaries.now c.args.x c.args.y c.args.map.coordinates.now c.requires, second-row c.args.map.lanes.now c.args.i c.args.j c.args.side c.args.map.boundaries.now c.args.x c.args.y c.args.map.coordinates.now c.requires)

pub overflow_mul-two : goal.overflow_mul-two
overflow_mul-two c = omega (arith, first-row c.args.map.lanes.now c.args.i c.args.j c.args.side c.args.map.boundaries.now c.args.x c.args.y c.args.map.coordinates.now c.requires, second-row c.args.map.lanes.now c.args.i c.args.j c.args.side c.args.map.boundaries.now c.args.x c.args.y c.args.map.coordinates.now c.requires)

pub overflow_add-two : goal.overflow_add-two
overflow_add-two c = omega (arith, first-row c.args.map.lanes.now c.args.i c.args.j c.args.side c.args.map.boundaries.now c.args.x c.args.y c.args.map.coordinates.now c.requires, second-row c.args.map.lanes.now c.args.i c.args.j c.args.side c.args.map.boundaries.now c.args.x c.args.y c.args.map.coordinates.now c.requires)

pub overflow_add-two-2 : goal.overflow_add-two-2
overflow_add-two-2 c = omega (arith, first-row c.args.map.lanes.now c.args.i c.args.j c.args.side c.args.map.boundaries.now c.args.x c.args.y c.args.map.coordinates.now c.requires, second-row c.args.map.lanes.now c.args.i c.args.j c.args.side c.args.map.boundaries.now c.args.x c.args.y c.args.map.coordinates.now c.requires)

pub offset_bounds-map-y : goal.offset_bounds-map-y
offset_bounds-map-y c = omega (arith, first-row c.args.map.lanes.now c.args.i c.args.j c.args.side c.args.map.boundaries.now c.args.x c.args.y c.args.map.coordinates.now c.requires, second-row c.args.map.lanes.now c.args.i c.args.j c.args.side c.args.map.boundaries.now c.args.x c.args.y c.args.map.coordinates.now c.requires)

pub bounds-map-y : goal.bounds-map-y
bounds-map-y c = omega (arith, first-row c.args.map.lanes.now c.args.i c.args.j c.args.side c.args.map.boundaries.now c.args.x c.args.y c.args.map.coordinates.now c.requires, second-row c.args.map.lanes.now c.args.i c.args.j c.args.side c.args.map.boundaries.now c.args.x c.args.y c.args.map.coordinates.now c.requires)

pub overflow_add-result : goal.overflow_add-result
overflow_add-result c = omega (arith, both-few c.args.map.lanes.now c.args.i c.args.j c.args.side c.args.map.boundaries.now c.args.x c.args.y c.args.map.coordinates.now c.requires)

pub overflow_sub-result : goal.overflow_sub-result
overflow_sub-result c = omega (arith, met-few c.args.join (side_line c.args.map.coordinates.now c.args.map.lanes.now c.args.map.boundaries.now c.args.i c.args.side) (side_line c.args.map.coordinates.now c.args.map.lanes.now c.args.map.boundaries.now c.args.j c.args.side) _ _ (first-long c.args.map.lanes.now c.args.i c.args.j c.args.side c.args.map.boundaries.now c.args.x c.args.y c.args.map.coordinates.now c.requires) (second-long c.args.map.lanes.now c.args.i c.args.j c.args.side c.args.map.boundaries.now c.args.x c.args.y c.args.map.coordinates.now c.requires) c.oriented_last-end.result c.oriented_first-start.result c.oriented_last-end.ensures c.oriented_first-start.ensures c.meeting.result c.meeting.ensures)

pub returns : goal.returns
returns c = joined-long c.args.join (side_line c.args.map.coordinates.now c.args.map.lanes.now c.args.map.boundaries.now c.args.i c.args.side) (side_line c.args.map.coordinates.now c.args.map.lanes.now c.args.map.boundaries.now c.args.j c.args.side) _ _ (first-long c.args.map.lanes.now c.args.i c.args.j c.args.side c.args.map.boundaries.now c.args.x c.args.y c.args.map.coordinates.now c.requires) (second-long c.args.map.lanes.now c.args.i c.args.j c.args.side c.args.map.boundaries.now c.args.x c.args.y c.args.map.coordinates.now c.requires) c.oriented_last-end.result c.oriented_first-start.result c.oriented_last-end.ensures c.oriented_first-start.ensures c.meeting.result c.meeting.ensures
