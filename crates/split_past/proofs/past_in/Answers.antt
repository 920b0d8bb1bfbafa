-- `split_past::past_in` meets its contract: both halves and their joined line are read back from where they were written. Assumes nothing.
use borrow.Author.Rules.{rules}
use mathlib.Core.Path.{sym, ◌∙◌}
use mathlib.Core.Bool.{true, false}
use Prim.Native.Nat.{◌*◌}
use native.Mathlib.Omega.{arith}
use lib.ListN.{take}
use Rattle.polyline.specs.Polyline.{points}
use Rattle.lookup.proofs.Center.{count_none}
use Rattle.split_half.specs.Half.{row_half}
use Rattle.split_half.proofs.Halves.{line_small, line-room, line-lent, line-there, line-few}
use Rattle.split_half.proofs.Centers.{center_few, past_first, past-second, joined-room, joined_small, joined-within, joined-lent, past-both}
use Rattle.split_past.proofs.past_in.Goals as goal

pub returns-in_default : goal.returns-in_default
returns-in_default c = let a = c.args in let p = c.requires in past_first a.join a.map.coordinates.now a.map.lanes.now a.map.boundaries.now a.point a.i a.station a.anchor (count_none (row_half a.map.coordinates.now a.map.lanes.now a.map.boundaries.now a.point false a.i) (sym c.in_default.is ∙ c.half_center-first.ensures.0))

pub returns-in_default-second : goal.returns-in_default-second
returns-in_default-second c = let a = c.args in let p = c.requires in past-second a.join a.map.coordinates.now a.map.lanes.now a.map.boundaries.now a.point a.i a.station a.anchor (points (take (c.in-Some.a * 3) c.half_center-first.new.out)) (line-there (row_half a.map.coordinates.now a.map.lanes.now a.map.boundaries.now a.point false a.i) a.one.now c.half_center-first.new.out (center_few a.map.coordinates.now a.map.lanes.now a.map.boundaries.now a.point false a.i p.0) p.1.0 c.half_center-first.ensures.1 c.in-Some.a (sym c.in-Some.is ∙ c.half_center-first.ensures.0)) (count_none (row_half a.map.coordinates.now a.map.lanes.now a.map.boundaries.now a.point true a.i) (sym c.in_default-second.is ∙ c.half_center-second.ensures.0))

pub overflow_mul-one_end : goal.overflow_mul-one_end
overflow_mul-one_end c = let a = c.args in let p = c.requires in omega (arith, line_small (row_half a.map.coordinates.now a.map.lanes.now a.map.boundaries.now a.point false a.i) a.one.now c.half_center-first.new.out (center_few a.map.coordinates.now a.map.lanes.now a.map.boundaries.now a.point false a.i p.0) p.1.0 c.half_center-first.ensures.1 c.in-Some.a (sym c.in-Some.is ∙ c.half_center-first.ensures.0))

pub overflow_mul-two_end : goal.overflow_mul-two_end
overflow_mul-two_end c = let a = c.args in let p = c.requires in omega (arith, line_small (row_half a.map.coordinates.now a.map.lanes.now a.map.boundaries.now a.point true a.i) a.two.now c.half_center-second.new.out (center_few a.map.coordinates.now a.map.lanes.now a.map.boundaries.now a.point true a.i p.0) p.1.1.0 c.half_center-second.ensures.1 c.in-Some-second.b (sym c.in-Some-second.is ∙ c.half_center-second.ensures.0))

pub slice_bounds-concat-end : goal.slice_bounds-concat-end
slice_bounds-concat-end c = let a = c.args in let p = c.requires in line-room (row_half a.map.coordinates.now a.map.lanes.now a.map.boundaries.now a.point false a.i) a.one.now c.half_center-first.new.out (center_few a.map.coordinates.now a.map.lanes.now a.map.boundaries.now a.point false a.i p.0) p.1.0 c.half_center-first.ensures.1 c.in-Some.a (sym c.in-Some.is ∙ c.half_center-first.ensures.0)

pub slice_bounds-concat-end-2 : goal.slice_bounds-concat-end-2
slice_bounds-concat-end-2 c = let a = c.args in let p = c.requires in line-lent (row_half a.map.coordinates.now a.map.lanes.now a.map.boundaries.now a.point false a.i) a.one.now c.half_center-first.new.out (center_few a.map.coordinates.now a.map.lanes.now a.map.boundaries.now a.point false a.i p.0) p.1.0 c.half_center-first.ensures.1 c.in-Some.a (sym c.in-Some.is ∙ c.half_center-first.ensures.0)

pub slice_bounds-concat-end-3 : goal.slice_bounds-concat-end-3
slice_bounds-concat-end-3 c = let a = c.args in let p = c.requires in line-room (row_half a.map.coordinates.now a.map.lanes.now a.map.boundaries.now a.point true a.i) a.two.now c.half_center-second.new.out (center_few a.map.coordinates.now a.map.lanes.now a.map.boundaries.now a.point true a.i p.0) p.1.1.0 c.half_center-second.ensures.1 c.in-Some-second.b (sym c.in-Some-second.is ∙ c.half_center-second.ensures.0)

pub slice_bounds-concat-end-4 : goal.slice_bounds-concat-end-4
slice_bounds-concat-end-4 c = let a = c.args in let p = c.requires in line-lent (row_half a.map.coordinates.now a.map.lanes.now a.map.boundaries.now a.point true a.i) a.two.now c.half_center-second.new.out (center_few a.map.coordinates.now a.map.lanes.now a.map.boundaries.now a.point true a.i p.0) p.1.1.0 c.half_center-second.ensures.1 c.in-Some-second.b (sym c.in-Some-second.is ∙ c.half_center-second.ensures.0)

pub concat-n-requires : goal.concat-n-requires
concat-n-requires c = let a = c.args in let p = c.requires in joined-room a.join a.map.coordinates.now a.map.lanes.now a.map.boundaries.now a.point a.i a.station a.anchor (points (take (c.in-Some.a * 3) c.half_center-first.new.out)) (points (take (c.in-Some-second.b * 3) c.half_center-second.new.out)) (line-few (row_half a.map.coordinates.now a.map.lanes.now a.map.boundaries.now a.point false a.i) a.one.now c.half_center-first.new.out (center_few a.map.coordinates.now a.map.lanes.now a.map.boundaries.now a.point false a.i p.0) p.1.0 c.half_center-first.ensures.1 c.in-Some.a (sym c.in-Some.is ∙ c.half_center-first.ensures.0)) (line-few (row_half a.map.coordinates.now a.map.lanes.now a.map.boundaries.now a.point true a.i) a.two.now c.half_center-second.new.out (center_few a.map.coordinates.now a.map.lanes.now a.map.boundaries.now a.point true a.i p.0) p.1.1.0 c.half_center-second.ensures.1 c.in-Some-second.b (sym c.in-Some-second.is ∙ c.half_center-second.ensures.0)) a.line.now p.1.1.1

pub overflow_mul-end : goal.overflow_mul-end
overflow_mul-end c = let a = c.args in let p = c.requires in omega (arith, joined_small a.join a.map.coordinates.now a.map.lanes.now a.map.boundaries.now a.point a.i a.station a.anchor (points (take (c.in-Some.a * 3) c.half_center-first.new.out)) (points (take (c.in-Some-second.b * 3) c.half_center-second.new.out)) (line-few (row_half a.map.coordinates.now a.map.lanes.now a.map.boundaries.now a.point false a.i) a.one.now c.half_center-first.new.out (center_few a.map.coordinates.now a.map.lanes.now a.map.boundaries.now a.point false a.i p.0) p.1.0 c.half_center-first.ensures.1 c.in-Some.a (sym c.in-Some.is ∙ c.half_center-first.ensures.0)) (line-few (row_half a.map.coordinates.now a.map.lanes.now a.map.boundaries.now a.point true a.i) a.two.now c.half_center-second.new.out (center_few a.map.coordinates.now a.map.lanes.now a.map.boundaries.now a.point true a.i p.0) p.1.1.0 c.half_center-second.ensures.1 c.in-Some-second.b (sym c.in-Some-second.is ∙ c.half_center-second.ensures.0)) a.line.now p.1.1.1 c.concat-n.new.out c.concat-n.result c.concat-n.ensures)

pub slice_bounds-past_on-end : goal.slice_bounds-past_on-end
slice_bounds-past_on-end c = let a = c.args in let p = c.requires in joined-within a.join a.map.coordinates.now a.map.lanes.now a.map.boundaries.now a.point a.i a.station a.anchor (points (take (c.in-Some.a * 3) c.half_center-first.new.out)) (points (take (c.in-Some-second.b * 3) c.half_center-second.new.out)) (line-few (row_half a.map.coordinates.now a.map.lanes.now a.map.boundaries.now a.point false a.i) a.one.now c.half_center-first.new.out (center_few a.map.coordinates.now a.map.lanes.now a.map.boundaries.now a.point false a.i p.0) p.1.0 c.half_center-first.ensures.1 c.in-Some.a (sym c.in-Some.is ∙ c.half_center-first.ensures.0)) (line-few (row_half a.map.coordinates.now a.map.lanes.now a.map.boundaries.now a.point true a.i) a.two.now c.half_center-second.new.out (center_few a.map.coordinates.now a.map.lanes.now a.map.boundaries.now a.point true a.i p.0) p.1.1.0 c.half_center-second.ensures.1 c.in-Some-second.b (sym c.in-Some-second.is ∙ c.half_center-second.ensures.0)) a.line.now p.1.1.1 c.concat-n.new.out c.concat-n.result c.concat-n.ensures

pub slice_bounds-past_on-end-2 : goal.slice_bounds-past_on-end-2
slice_bounds-past_on-end-2 c = let a = c.args in let p = c.requires in joined-lent a.join a.map.coordinates.now a.map.lanes.now a.map.boundaries.now a.point a.i a.station a.anchor (points (take (c.in-Some.a * 3) c.half_center-first.new.out)) (points (take (c.in-Some-second.b * 3) c.half_center-second.new.out)) (line-few (row_half a.map.coordinates.now a.map.lanes.now a.map.boundaries.now a.point false a.i) a.one.now c.half_center-first.new.out (center_few a.map.coordinates.now a.map.lanes.now a.map.boundaries.now a.point false a.i p.0) p.1.0 c.half_center-first.ensures.1 c.in-Some.a (sym c.in-Some.is ∙ c.half_center-first.ensures.0)) (line-few (row_half a.map.coordinates.now a.map.lanes.now a.map.boundaries.now a.point true a.i) a.two.now c.half_center-second.new.out (center_few a.map.coordinates.now a.map.lanes.now a.map.boundaries.now a.point true a.i p.0) p.1.1.0 c.half_center-second.ensures.1 c.in-Some-second.b (sym c.in-Some-second.is ∙ c.half_center-second.ensures.0)) a.line.now p.1.1.1 c.concat-n.new.out c.concat-n.result c.concat-n.ensures

pub returns : goal.returns
returns c = let a = c.args in let p = c.requires in past-both a.join a.map.coordinates.now a.map.lanes.now a.map.boundaries.now a.point a.i a.station a.anchor (points (take (c.in-Some.a * 3) c.half_center-first.new.out)) (points (take (c.in-Some-second.b * 3) c.half_center-second.new.out)) (line-few (row_half a.map.coordinates.now a.map.lanes.now a.map.boundaries.now a.point false a.i) a.one.now c.half_center-first.new.out (center_few a.map.coordinates.now a.map.lanes.now a.map.boundaries.now a.point false a.i p.0) p.1.0 c.half_center-first.ensures.1 c.in-Some.a (sym c.in-Some.is ∙ c.half_center-first.ensures.0)) (line-few (row_half a.map.coordinates.now a.map.lanes.now a.map.boundaries.now a.point true a.i) a.two.now c.half_center-second.new.out (center_few a.map.coordinates.now a.map.lanes.now a.map.boundaries.now a.point true a.i p.0) p.1.1.0 c.half_center-second.ensures.1 c.in-Some-second.b (sym c.in-Some-second.is ∙ c.half_center-second.ensures.0)) a.line.now p.1.1.1 c.concat-n.new.out c.concat-n.result c.concat-n.ensures (line-there (row_half a.map.coordinates.now a.map.lanes.now a.map.boundaries.now a.point false a.i) a.one.now c.half_center-first.new.out (center_few a.map.coordinates.now a.map.lanes.now a.map.boundaries.now a.point false a.i p.0) p.1.0 c.half_center-first.ensures.1 c.in-Some.a (sym c.in-Some.is ∙ c.half_center-first.ensures.0)) (line-there (row_half a.map.coordinates.now a.map.lanes.now a.map.boundaries.now a.point true a.i) a.two.now c.half_center-second.new.out (center_few a.map.coordinates.now a.map.lanes.now a.map.boundaries.now a.point true a.i p.0) p.1.1.0 c.half_center-second.ensures.1 c.in-Some-second.b (sym c.in-Some-second.is ∙ c.half_center-second.ensures.0)) c.past_on.result c.past_on.ensures
