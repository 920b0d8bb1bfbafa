-- `merge_redraw::draw` meets its contract: each step leaves the work as long as it was, so that every line has room. Assumes nothing.
use borrow.Author.Rules.{rules}
use native.Mathlib.Omega.{arith}
use Rattle.merge_redraw.proofs.Lines.{all-drawn}
use Rattle.merge_redraw.proofs.draw.Goals as goal

pub draw_side-requires-2 : goal.draw_side-requires-2
draw_side-requires-2 c =
    let p = c.requires in
    (p.first, (p.second, omega (arith, c.draw_side.auto.work, c.side_points-right_at.ensures, p.left_few, p.room)))

pub draw_center-requires : goal.draw_center-requires
draw_center-requires c =
    let p = c.requires in
    record {
      sorted = p.drawable.lanes_are_sorted;
      centers = p.drawable.centers_are_stored;
      first = p.first;
      second = p.second;
      marked = p.centered;
      room = omega (arith, c.draw_side.auto.work, c.draw_side-2.auto.work, c.side_points-right_at.ensures, c.side_points.ensures, p.left_few, p.right_few, p.room);
    }

pub returns : goal.returns
returns c =
    let a = c.args in
    all-drawn a.join a.map.coordinates.now a.map.lanes.now a.map.boundaries.now a.i a.j a.plan c.side_points-right_at.result c.side_points.result
    c.side_points-right_at.ensures c.side_points.ensures a.work.now c.draw_side.new.work
    c.draw_side-2.new.work c.draw_center.new.work c.draw_side.ensures c.draw_side-2.ensures c.draw_center.ensures
