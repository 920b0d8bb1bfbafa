-- `merge_redraw::draw_center` meets its contract: the centreline is written in the part that begins at its first point. Assumes nothing.
use Rattle.std.specs.Prelude.{is_some}
use borrow.Author.Rules.{rules}
use mathlib.Core.Path.{◌∙◌, sym}
use Prim.Native.Nat.{◌*◌}
use native.Mathlib.Nat.{le_refl}
use native.Mathlib.Omega.{arith}
use lib.ListN.{length}
use borrow.Rule.Slice.PartMut.{mid_len}
use Rattle.polyline.specs.Polyline.{flat}
use Rattle.merge_draw.specs.Redrawing.{joined_centers}
use Rattle.merge_redraw.proofs.Lines.{center_none, center_drawn_lem}
use Rattle.merge_redraw.proofs.draw_center.Goals as goal

pub join_center-requires : goal.join_center-requires
join_center-requires c =
    let s = c in
    let w = s.args.work.now in
    let m = s.requires.marked (sym c.is_some.ensures ∙ c.if-is_some.true) in
    record {
      sorted = s.requires.sorted;
      centers = s.requires.centers;
      first = s.requires.first;
      second = s.requires.second;
      first_has = m.0;
      second_has = m.1;
      room = omega (arith, mid_len (s.args.at * 3) (length w) w (le_refl (length w)), s.requires.room);
    }

pub returns-then-is_some : goal.returns-then-is_some
returns-then-is_some c =
    let a = c.args in
    center_drawn_lem a.center c.is_some.result (flat (joined_centers a.join a.coordinates.now a.lanes.now a.i a.j))
    c.is_some.ensures c.if-is_some.true a.work.now c.join_center.new.out (a.at * 3) (omega (arith, c.requires.room)) c.join_center.ensures.1

pub returns-else-is_some : goal.returns-else-is_some
returns-else-is_some c =
    let a = c.args in
    center_none a.center c.is_some.result (flat (joined_centers a.join a.coordinates.now a.lanes.now a.i a.j))
    c.is_some.ensures c.if-is_some.false a.work.now (a.at * 3)
