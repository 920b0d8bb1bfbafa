-- `merge_redraw::draw_side` meets its contract: the line is written in the part that begins at its first point. Assumes nothing.
use borrow.Author.Rules.{rules}
use mathlib.Core.Path.{◌∙◌, ap}
use Prim.Native.Nat.{◌*◌}
use native.Mathlib.Omega.{arith}
use Rattle.lookup.specs.Lookup.{row_at, side_word}
use Rattle.tables.specs.View.{ref_at}
use Rattle.merge_draw.specs.Redrawing.{joined_side}
use Rattle.merge_redraw.specs.Relaying.{turned}
use Rattle.merge_redraw.proofs.Lines.{side-kept, side-drawn}
use Rattle.merge_redraw.proofs.draw_side.Goals as goal

pub returns-then-is_kept : goal.returns-then-is_kept
returns-then-is_kept c =
    let a = c.args in
    side-kept a.plan (ref_at (side_word a.side) (row_at 52 a.map.lanes.now a.i)).reversed c.is_kept.result
    (joined_side a.join a.map.coordinates.now a.map.lanes.now a.map.boundaries.now a.i a.j a.side) c.is_kept.ensures c.if-is_kept.true a.work.now (a.at * 3)

pub returns : goal.returns
returns c =
    let a = c.args in
    side-drawn a.plan (ref_at (side_word a.side) (row_at 52 a.map.lanes.now a.i)).reversed c.is_kept.result c.turned-back.result
    (joined_side a.join a.map.coordinates.now a.map.lanes.now a.map.boundaries.now a.i a.j a.side) c.is_kept.ensures c.if-is_kept.false
    (c.turned-back.ensures ∙ ap (λ z. turned a.plan z.reversed) c.boundary_ref.ensures)
    a.work.now c.join_side.new.out (a.at * 3) (omega (arith, c.requires.1.1)) c.join_side.ensures.1
