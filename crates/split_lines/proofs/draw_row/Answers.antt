-- `split_lines::draw_row` meets its contract: the pieces are written in the part that begins at their first point. Assumes nothing.
use borrow.Author.Rules.{rules}
use mathlib.Core.Path.{ap}
use Prim.Native.Nat.{◌*◌}
use native.Mathlib.Omega.{arith}
use native.Mathlib.Nat.{le_refl}
use lib.ListN.{length}
use borrow.Rule.Slice.PartMut.{mid_len}
use Rattle.polyline.specs.Polyline.{points}
use Rattle.split_lines.specs.Cut.{both_lines}
use Rattle.split_lines.proofs.Pieces.{row-without, row-may, row-with, draw_none, draw_some}
use Rattle.split_lines.proofs.draw_row.Goals as goal

pub line_of-line-requires : goal.line_of-line-requires
line_of-line-requires c = let a = c.args in row-may a.coordinates.now a.offset a.marked a.row a.t.now c.has_line.result c.has_line.ensures c.requires.0 c.if-has_line.true

pub put_pieces-requires : goal.put_pieces-requires
put_pieces-requires c =
    let a = c.args in
    let e = ap (λ l. length (both_lines a.point l)) (row-with a.coordinates.now a.offset a.marked a.row a.t.now c.has_line.result c.has_line.ensures c.requires.0 c.if-has_line.true c.line_of-line.result.now c.line_of-line.ensures) in
    omega (arith, e, c.requires.1, mid_len (a.at * 3) (length a.out.now) a.out.now (le_refl (length a.out.now)))

pub overflow_add-result : goal.overflow_add-result
overflow_add-result c =
    let a = c.args in
    let e = ap (λ l. length (both_lines a.point l)) (row-with a.coordinates.now a.offset a.marked a.row a.t.now c.has_line.result c.has_line.ensures c.requires.0 c.if-has_line.true c.line_of-line.result.now c.line_of-line.ensures) in
    omega (arith, e, c.requires.1, c.put_pieces.ensures.0)

pub returns-then-has_line : goal.returns-then-has_line
returns-then-has_line c =
    let a = c.args in
    let e = row-with a.coordinates.now a.offset a.marked a.row a.t.now c.has_line.result c.has_line.ensures c.requires.0 c.if-has_line.true c.line_of-line.result.now c.line_of-line.ensures in
    draw_some a.coordinates.now a.offset a.marked a.row a.t.now a.point a.at a.out.now (points c.line_of-line.result.now) e c.requires.1 c.put_pieces.result c.put_pieces.new.out c.put_pieces.ensures

pub returns : goal.returns
returns c = let a = c.args in draw_none a.coordinates.now a.offset a.marked a.row a.t.now a.point a.at a.out.now (row-without a.coordinates.now a.offset a.marked a.row a.t.now c.has_line.result c.has_line.ensures c.if-has_line.false)
