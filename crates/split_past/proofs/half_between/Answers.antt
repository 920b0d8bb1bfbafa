-- `split_past::half_between` meets its contract: both sides are read back from where they were written. Assumes nothing.
use borrow.Author.Rules.{rules}
use mathlib.Core.Path.{sym, ◌∙◌}
use Prim.Native.Nat.{◌*◌}
use native.Mathlib.Omega.{arith}
use lib.ListN.{length, take}
use Rattle.polyline.specs.Polyline.{points}
use Rattle.rules.specs.Names.{Left, Right}
use Rattle.lookup.proofs.Laws.{written_none}
use Rattle.lookup.proofs.Center.{count_none, left-absent, right-absent, center_empty, center_some}
use Rattle.split_half.specs.Half.{row_half_side, row_derived}
use Rattle.split_half.proofs.Halves.{row-side-few, line_small, line-room, line-lent, line-there, line-few, center_room}
use Rattle.split_past.proofs.half_between.Goals as goal

pub returns-in_err-a : goal.returns-in_err-a
returns-in_err-a c = let x = let a = c.args in let p = c.requires in written_none (row_derived a.map.coordinates.now a.map.lanes.now a.map.boundaries.now a.point a.second a.i) a.out.now (left-absent (row_half_side a.map.coordinates.now a.map.lanes.now a.map.boundaries.now a.point a.second a.i Left) (row_half_side a.map.coordinates.now a.map.lanes.now a.map.boundaries.now a.point a.second a.i Right) (count_none (row_half_side a.map.coordinates.now a.map.lanes.now a.map.boundaries.now a.point a.second a.i Left) (sym c.in_err-a.was ∙ c.half_side-l.ensures.0))) in (c.from_residual.ensures ∙ x.0, x.1)

pub returns-in_err-b : goal.returns-in_err-b
returns-in_err-b c = let x = let a = c.args in let p = c.requires in written_none (row_derived a.map.coordinates.now a.map.lanes.now a.map.boundaries.now a.point a.second a.i) a.out.now (right-absent (row_half_side a.map.coordinates.now a.map.lanes.now a.map.boundaries.now a.point a.second a.i Left) (row_half_side a.map.coordinates.now a.map.lanes.now a.map.boundaries.now a.point a.second a.i Right) (count_none (row_half_side a.map.coordinates.now a.map.lanes.now a.map.boundaries.now a.point a.second a.i Right) (sym c.in_err-b.was ∙ c.half_side-r.ensures.0))) in (c.from_residual-in_err-b.ensures ∙ x.0, x.1)

pub overflow_mul-left_end : goal.overflow_mul-left_end
overflow_mul-left_end c = let a = c.args in let p = c.requires in omega (arith, line_small (row_half_side a.map.coordinates.now a.map.lanes.now a.map.boundaries.now a.point a.second a.i Left) a.left.now c.half_side-l.new.out (row-side-few a.map.coordinates.now a.map.lanes.now a.map.boundaries.now a.point a.second a.i Left p.0) p.1.1.0 c.half_side-l.ensures.1 c.in_ok-a.a (sym c.in_ok-a.was ∙ c.half_side-l.ensures.0))

pub overflow_mul-right_end : goal.overflow_mul-right_end
overflow_mul-right_end c = let a = c.args in let p = c.requires in omega (arith, line_small (row_half_side a.map.coordinates.now a.map.lanes.now a.map.boundaries.now a.point a.second a.i Right) a.right.now c.half_side-r.new.out (row-side-few a.map.coordinates.now a.map.lanes.now a.map.boundaries.now a.point a.second a.i Right p.0) p.1.1.1.0 c.half_side-r.ensures.1 c.in_ok-b.b (sym c.in_ok-b.was ∙ c.half_side-r.ensures.0))

pub slice_bounds-centerline-end : goal.slice_bounds-centerline-end
slice_bounds-centerline-end c = let a = c.args in let p = c.requires in line-room (row_half_side a.map.coordinates.now a.map.lanes.now a.map.boundaries.now a.point a.second a.i Left) a.left.now c.half_side-l.new.out (row-side-few a.map.coordinates.now a.map.lanes.now a.map.boundaries.now a.point a.second a.i Left p.0) p.1.1.0 c.half_side-l.ensures.1 c.in_ok-a.a (sym c.in_ok-a.was ∙ c.half_side-l.ensures.0)

pub slice_bounds-centerline-end-2 : goal.slice_bounds-centerline-end-2
slice_bounds-centerline-end-2 c = let a = c.args in let p = c.requires in line-lent (row_half_side a.map.coordinates.now a.map.lanes.now a.map.boundaries.now a.point a.second a.i Left) a.left.now c.half_side-l.new.out (row-side-few a.map.coordinates.now a.map.lanes.now a.map.boundaries.now a.point a.second a.i Left p.0) p.1.1.0 c.half_side-l.ensures.1 c.in_ok-a.a (sym c.in_ok-a.was ∙ c.half_side-l.ensures.0)

pub slice_bounds-centerline-end-3 : goal.slice_bounds-centerline-end-3
slice_bounds-centerline-end-3 c = let a = c.args in let p = c.requires in line-room (row_half_side a.map.coordinates.now a.map.lanes.now a.map.boundaries.now a.point a.second a.i Right) a.right.now c.half_side-r.new.out (row-side-few a.map.coordinates.now a.map.lanes.now a.map.boundaries.now a.point a.second a.i Right p.0) p.1.1.1.0 c.half_side-r.ensures.1 c.in_ok-b.b (sym c.in_ok-b.was ∙ c.half_side-r.ensures.0)

pub slice_bounds-centerline-end-4 : goal.slice_bounds-centerline-end-4
slice_bounds-centerline-end-4 c = let a = c.args in let p = c.requires in line-lent (row_half_side a.map.coordinates.now a.map.lanes.now a.map.boundaries.now a.point a.second a.i Right) a.right.now c.half_side-r.new.out (row-side-few a.map.coordinates.now a.map.lanes.now a.map.boundaries.now a.point a.second a.i Right p.0) p.1.1.1.0 c.half_side-r.ensures.1 c.in_ok-b.b (sym c.in_ok-b.was ∙ c.half_side-r.ensures.0)

pub centerline-n-requires : goal.centerline-n-requires
centerline-n-requires c = let a = c.args in let p = c.requires in center_room (points (take (c.in_ok-a.a * 3) c.half_side-l.new.out)) (points (take (c.in_ok-b.b * 3) c.half_side-r.new.out)) (length a.out.now) (line-few (row_half_side a.map.coordinates.now a.map.lanes.now a.map.boundaries.now a.point a.second a.i Left) a.left.now c.half_side-l.new.out (row-side-few a.map.coordinates.now a.map.lanes.now a.map.boundaries.now a.point a.second a.i Left p.0) p.1.1.0 c.half_side-l.ensures.1 c.in_ok-a.a (sym c.in_ok-a.was ∙ c.half_side-l.ensures.0)) (line-few (row_half_side a.map.coordinates.now a.map.lanes.now a.map.boundaries.now a.point a.second a.i Right) a.right.now c.half_side-r.new.out (row-side-few a.map.coordinates.now a.map.lanes.now a.map.boundaries.now a.point a.second a.i Right p.0) p.1.1.1.0 c.half_side-r.ensures.1 c.in_ok-b.b (sym c.in_ok-b.was ∙ c.half_side-r.ensures.0)) p.1.1.1.1

pub returns-then-n-eq0 : goal.returns-then-n-eq0
returns-then-n-eq0 c = let a = c.args in let p = c.requires in center_empty (row_half_side a.map.coordinates.now a.map.lanes.now a.map.boundaries.now a.point a.second a.i Left) (row_half_side a.map.coordinates.now a.map.lanes.now a.map.boundaries.now a.point a.second a.i Right) (points (take (c.in_ok-a.a * 3) c.half_side-l.new.out)) (points (take (c.in_ok-b.b * 3) c.half_side-r.new.out)) (line-there (row_half_side a.map.coordinates.now a.map.lanes.now a.map.boundaries.now a.point a.second a.i Left) a.left.now c.half_side-l.new.out (row-side-few a.map.coordinates.now a.map.lanes.now a.map.boundaries.now a.point a.second a.i Left p.0) p.1.1.0 c.half_side-l.ensures.1 c.in_ok-a.a (sym c.in_ok-a.was ∙ c.half_side-l.ensures.0)) (line-there (row_half_side a.map.coordinates.now a.map.lanes.now a.map.boundaries.now a.point a.second a.i Right) a.right.now c.half_side-r.new.out (row-side-few a.map.coordinates.now a.map.lanes.now a.map.boundaries.now a.point a.second a.i Right p.0) p.1.1.1.0 c.half_side-r.ensures.1 c.in_ok-b.b (sym c.in_ok-b.was ∙ c.half_side-r.ensures.0)) c.centerline-n.result c.centerline-n.ensures.0 a.out.now c.centerline-n.new.out c.centerline-n.ensures.1 c.if-n-eq0.true

pub returns : goal.returns
returns c = let a = c.args in let p = c.requires in center_some (row_half_side a.map.coordinates.now a.map.lanes.now a.map.boundaries.now a.point a.second a.i Left) (row_half_side a.map.coordinates.now a.map.lanes.now a.map.boundaries.now a.point a.second a.i Right) (points (take (c.in_ok-a.a * 3) c.half_side-l.new.out)) (points (take (c.in_ok-b.b * 3) c.half_side-r.new.out)) (line-there (row_half_side a.map.coordinates.now a.map.lanes.now a.map.boundaries.now a.point a.second a.i Left) a.left.now c.half_side-l.new.out (row-side-few a.map.coordinates.now a.map.lanes.now a.map.boundaries.now a.point a.second a.i Left p.0) p.1.1.0 c.half_side-l.ensures.1 c.in_ok-a.a (sym c.in_ok-a.was ∙ c.half_side-l.ensures.0)) (line-there (row_half_side a.map.coordinates.now a.map.lanes.now a.map.boundaries.now a.point a.second a.i Right) a.right.now c.half_side-r.new.out (row-side-few a.map.coordinates.now a.map.lanes.now a.map.boundaries.now a.point a.second a.i Right p.0) p.1.1.1.0 c.half_side-r.ensures.1 c.in_ok-b.b (sym c.in_ok-b.was ∙ c.half_side-r.ensures.0)) c.centerline-n.result c.centerline-n.ensures.0 a.out.now c.centerline-n.new.out c.centerline-n.ensures.1 c.if-n-eq0.false
