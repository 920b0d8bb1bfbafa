-- `polyline::point` meets its contract: the three coordinates lie within the part. Assumes nothing.
use native.Mathlib.Omega.{arith}
use mathlib.Core.Path.{sym}
use mathlib.Core.List.{[]}
use Rattle.polyline.specs.Polyline.{point_of}
use Rattle.polyline.proofs.Points.{points-room, get_d_points}
use Rattle.polyline.proofs.point.Goals as goal

pub overflow_mul-at : goal.overflow_mul-at
overflow_mul-at c = omega (arith, points-room c.args.line.now c.args.i c.requires)

pub offset_bounds-line-at : goal.offset_bounds-line-at
offset_bounds-line-at c = omega (arith, points-room c.args.line.now c.args.i c.requires)

pub bounds-line-at : goal.bounds-line-at
bounds-line-at c = omega (arith, points-room c.args.line.now c.args.i c.requires)

pub overflow_add-result : goal.overflow_add-result
overflow_add-result c = omega (arith, points-room c.args.line.now c.args.i c.requires)

pub offset_bounds-line-at-2 : goal.offset_bounds-line-at-2
offset_bounds-line-at-2 c = omega (arith, points-room c.args.line.now c.args.i c.requires)

pub bounds-line-at-2 : goal.bounds-line-at-2
bounds-line-at-2 c = omega (arith, points-room c.args.line.now c.args.i c.requires)

pub overflow_add-result-2 : goal.overflow_add-result-2
overflow_add-result-2 c = omega (arith, points-room c.args.line.now c.args.i c.requires)

pub offset_bounds-line-at-3 : goal.offset_bounds-line-at-3
offset_bounds-line-at-3 c = omega (arith, points-room c.args.line.now c.args.i c.requires)

pub bounds-line-at-3 : goal.bounds-line-at-3
bounds-line-at-3 c = omega (arith, points-room c.args.line.now c.args.i c.requires)

pub returns : goal.returns
returns c = sym (get_d_points c.args.line.now c.args.i (point_of []) c.requires)
