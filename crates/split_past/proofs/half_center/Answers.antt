-- `split_past::half_center` meets its contract: of an explicit line with points a piece, else the line between both boundaries. Assumes nothing.
use borrow.Author.Rules.{rules}
use mathlib.Core.Path.{sym, ◌∙◌}
use mathlib.Core.Logic.{⊎_elim, inl, inr}
use native.Mathlib.Omega.{arith}
use Rattle.lookup.proofs.Laws.{sorted-row}
use Rattle.lookup.proofs.Center.{center_stored, written_as}
use Rattle.split_half.specs.Half.{row_half, row_derived}
use Rattle.split_half.proofs.Centers.{half-between, own-written, own-few}
use Rattle.split_past.proofs.half_center.Goals as goal

pub overflow_mul-at : goal.overflow_mul-at
overflow_mul-at c = let a = c.args in let p = c.requires in omega (arith, sorted-row 1024 52 a.map.lanes.now p.0.drawable.lanes_are_sorted a.i p.0.row)

pub overflow_add-at : goal.overflow_add-at
overflow_add-at c = let a = c.args in let p = c.requires in omega (arith, sorted-row 1024 52 a.map.lanes.now p.0.drawable.lanes_are_sorted a.i p.0.row)

pub overflow_add-at-2 : goal.overflow_add-at-2
overflow_add-at-2 c = let a = c.args in let p = c.requires in omega (arith, sorted-row 1024 52 a.map.lanes.now p.0.drawable.lanes_are_sorted a.i p.0.row)

pub offset_bounds-map-at : goal.offset_bounds-map-at
offset_bounds-map-at c = let a = c.args in let p = c.requires in omega (arith, sorted-row 1024 52 a.map.lanes.now p.0.drawable.lanes_are_sorted a.i p.0.row)

pub bounds-map-at : goal.bounds-map-at
bounds-map-at c = let a = c.args in let p = c.requires in omega (arith, sorted-row 1024 52 a.map.lanes.now p.0.drawable.lanes_are_sorted a.i p.0.row)

pub overflow_add-at-then-map-at-ne0 : goal.overflow_add-at-then-map-at-ne0
overflow_add-at-then-map-at-ne0 c = let a = c.args in let p = c.requires in omega (arith, sorted-row 1024 52 a.map.lanes.now p.0.drawable.lanes_are_sorted a.i p.0.row)

pub line_of-line-requires : goal.line_of-line-requires
line_of-line-requires c = let a = c.args in let p = c.requires in (omega (arith, sorted-row 1024 52 a.map.lanes.now p.0.drawable.lanes_are_sorted a.i p.0.row), center_stored a.map.coordinates.now a.map.boundaries.now a.map.lanes.now a.i c.if-map-at-ne0.true p.0.drawable.centers_are_stored p.0.row)

pub half_line-requires : goal.half_line-requires
half_line-requires c = let a = c.args in let p = c.requires in (own-few a.map.coordinates.now a.map.lanes.now a.map.boundaries.now a.point a.second a.i p.0 c.if-map-at-ne0.true c.line_of-line.result.now c.line_of-line.ensures, p.1)

pub returns-then-count-ne0 : goal.returns-then-count-ne0
returns-then-count-ne0 c = let a = c.args in let p = c.requires in own-written a.map.coordinates.now a.map.lanes.now a.map.boundaries.now a.point a.second a.i c.if-map-at-ne0.true c.line_of-line.result.now c.line_of-line.ensures (λ z. c.if-count-ne0.true (c.count.ensures ∙ z)) a.out.now c.half_line.new.out c.half_line.result c.half_line.ensures

pub returns : goal.returns
returns c =
    let a = c.args in let p = c.requires in
    written_as (row_derived a.map.coordinates.now a.map.lanes.now a.map.boundaries.now a.point a.second a.i) (row_half a.map.coordinates.now a.map.lanes.now a.map.boundaries.now a.point a.second a.i) c.half_derived.result a.out.now c.half_derived.new.out
    (elim c.if-map-at-ne0.branch [
      | goal.then-map-at-ne0+else-count-ne0 s ↦ half-between a.map.coordinates.now a.map.lanes.now a.map.boundaries.now a.point a.second a.i (inl (s.if-map-at-ne0.true, (s.line_of-line.result.now, (s.line_of-line.ensures, sym s.count.ensures ∙ s.if-count-ne0.false))))
      | goal.else-map-at-ne0 s ↦ half-between a.map.coordinates.now a.map.lanes.now a.map.boundaries.now a.point a.second a.i (inr s.if-map-at-ne0.false)
    ])
    c.half_derived.ensures
