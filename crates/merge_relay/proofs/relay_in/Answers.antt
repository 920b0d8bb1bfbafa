-- `merge_relay::relay_in` meets its contract: the steps put together. Assumes nothing.
use Rattle.lent.specs.Lent.{lines_tables}
use Rattle.merge_redraw.proofs.Whole.{draw_asks, taken-asks, id-fits, right-fits, side-asks, lanes_ask, redraw_asks, gather-asks, all-relaid}
use native.Mathlib.Omega.{arith}
use Rattle.merge_relay.proofs.relay_in.Goals as goal

pub taken_of-taken-requires : goal.taken_of-taken-requires
taken_of-taken-requires c =
    let a = c.args in
    taken-asks a.join a.plan a.next a.reach a.gone.now a.i a.j a.lines.now.lanes.now a.lines.now.boundaries.now a.lines.now.stop_lines.now a.lines.now.crosswalks.now a.lines.now.coordinates.now a.work.now c.requires.0 c.requires.1

pub overflow_add-other : goal.overflow_add-other
overflow_add-other c =
    let a = c.args in
    omega (arith, id-fits a.join a.plan a.next a.reach a.gone.now a.i a.j a.lines.now.lanes.now a.lines.now.boundaries.now a.lines.now.stop_lines.now a.lines.now.crosswalks.now a.lines.now.coordinates.now a.work.now c.requires.0 c.requires.1 c.side_ids.result c.side_ids.ensures)

pub overflow_add-right_at : goal.overflow_add-right_at
overflow_add-right_at c =
    let a = c.args in
    omega (arith, right-fits a.join a.plan a.next a.reach a.gone.now a.i a.j a.lines.now.lanes.now a.lines.now.boundaries.now a.lines.now.stop_lines.now a.lines.now.crosswalks.now a.lines.now.coordinates.now a.work.now c.requires.0 c.requires.1 c.side_points.result c.side_points.ensures)

pub draw-requires : goal.draw-requires
draw-requires c =
    let a = c.args in
    draw_asks a.join a.plan a.next a.reach a.gone.now a.i a.j a.lines.now.lanes.now a.lines.now.boundaries.now a.lines.now.stop_lines.now a.lines.now.crosswalks.now a.lines.now.coordinates.now a.work.now c.requires.0 c.requires.1

pub redrawn_of-one-requires : goal.redrawn_of-one-requires
redrawn_of-one-requires c =
    let a = c.args in
    side-asks a.join a.plan a.next a.reach a.gone.now a.i a.j a.lines.now.lanes.now a.lines.now.boundaries.now a.lines.now.stop_lines.now a.lines.now.crosswalks.now a.lines.now.coordinates.now a.work.now c.requires.0 c.requires.1

pub redrawn_of-two-requires : goal.redrawn_of-two-requires
redrawn_of-two-requires c =
    let a = c.args in
    side-asks a.join a.plan a.next a.reach a.gone.now a.i a.j a.lines.now.lanes.now a.lines.now.boundaries.now a.lines.now.stop_lines.now a.lines.now.crosswalks.now a.lines.now.coordinates.now a.work.now c.requires.0 c.requires.1

pub redraw_boundaries-requires : goal.redraw_boundaries-requires
redraw_boundaries-requires c =
    let a = c.args in
    redraw_asks a.join a.plan a.next a.reach a.gone.now a.i a.j a.lines.now.lanes.now a.lines.now.boundaries.now a.lines.now.stop_lines.now a.lines.now.crosswalks.now a.lines.now.coordinates.now a.work.now c.requires.0 c.requires.1 c.taken_of-taken.result c.taken_of-taken.ensures c.side_points.result c.side_ids.result c.side_points.ensures c.side_ids.ensures c.redrawn_of-one.result c.redrawn_of-two.result c.redrawn_of-one.ensures c.redrawn_of-two.ensures

pub redraw_followed-requires : goal.redraw_followed-requires
redraw_followed-requires c =
    let a = c.args in
    lanes_ask a.join a.plan a.next a.reach a.gone.now a.i a.j a.lines.now.lanes.now a.lines.now.boundaries.now a.lines.now.stop_lines.now a.lines.now.crosswalks.now a.lines.now.coordinates.now a.work.now c.requires.0 c.requires.1

pub lay_out-requires : goal.lay_out-requires
lay_out-requires c =
    let a = c.args in
    record {
      near = c.requires.0.near;
      stored = c.requires.0.stored;
      few = omega (arith, c.draw.auto.work, c.requires.1);
      gatherable = gather-asks a.join a.plan a.next a.reach a.gone.now a.i a.j a.lines.now.lanes.now a.lines.now.boundaries.now a.lines.now.stop_lines.now a.lines.now.crosswalks.now a.lines.now.coordinates.now a.work.now c.requires.0 c.requires.1 c.taken_of-taken.result c.taken_of-taken.ensures c.side_points.result c.side_ids.result c.side_points.ensures c.side_ids.ensures c.redrawn_of-one.result c.redrawn_of-two.result c.redrawn_of-one.ensures c.redrawn_of-two.ensures c.draw.new.work c.draw.ensures c.redraw_boundaries.new.t c.redraw_boundaries.ensures c.redraw_followed.new.t c.redraw_followed.ensures;
    }

pub returns-clause-made : goal.returns-clause-made
returns-clause-made c =
    let a = c.args in
    all-relaid a.join a.plan a.next a.reach a.gone.now a.i a.j a.lines.now.lanes.now a.lines.now.boundaries.now a.lines.now.stop_lines.now a.lines.now.crosswalks.now a.lines.now.coordinates.now a.work.now c.requires.0 c.requires.1 c.taken_of-taken.result c.taken_of-taken.ensures c.side_points.result c.side_ids.result c.side_points.ensures c.side_ids.ensures c.redrawn_of-one.result c.redrawn_of-two.result c.redrawn_of-one.ensures c.redrawn_of-two.ensures c.draw.new.work c.draw.ensures c.redraw_boundaries.new.t c.redraw_boundaries.ensures c.redraw_followed.new.t c.redraw_followed.ensures (lines_tables c.lay_out.new.lines) c.lay_out.ensures.made
