-- `split_relay::relay_in` meets its contract: the steps put together. Assumes nothing.
use Rattle.lent.specs.Lent.{lines_tables}
use Rattle.split_relay.specs.Given.{cutting_by}
use Rattle.split_relay.proofs.Whole.{first-asks, second-asks, lay-asks, all-relaid}
use Rattle.split_relay.proofs.relay_in.Goals as goal

pub draw-behind-requires : goal.draw-behind-requires
draw-behind-requires c =
    let a = c.args in
    let m = a.lines.now in
    first-asks (cutting_by a.cuts) m.lanes.now m.boundaries.now m.stop_lines.now m.crosswalks.now m.coordinates.now a.drawn.now c.requires.0 c.requires.1

pub draw-requires : goal.draw-requires
draw-requires c =
    let a = c.args in
    let m = a.lines.now in
    second-asks (cutting_by a.cuts) m.lanes.now m.boundaries.now m.stop_lines.now m.crosswalks.now m.coordinates.now a.drawn.now c.requires.0 c.requires.1 c.draw-behind.result c.draw-behind.new.out c.draw-behind.ensures c.draw-behind.auto.out

pub cut_boundaries-requires : goal.cut_boundaries-requires
cut_boundaries-requires c = c.requires.0.boundaries_are_cut

pub cut_lanes-requires : goal.cut_lanes-requires
cut_lanes-requires c = c.requires.0.lanes_are_cut

pub lay_out-requires : goal.lay_out-requires
lay_out-requires c =
    let a = c.args in
    let m = a.lines.now in
    lay-asks (cutting_by a.cuts) m.lanes.now m.boundaries.now m.stop_lines.now m.crosswalks.now m.coordinates.now a.drawn.now c.requires.0 c.requires.1 c.draw-behind.result c.draw-behind.new.out c.draw-behind.ensures c.draw-behind.auto.out c.draw.new.out c.draw.ensures.1 c.draw.auto.out c.cut_boundaries.new.t c.cut_boundaries.ensures c.cut_lanes.new.t c.cut_lanes.ensures

pub returns-clause-made : goal.returns-clause-made
returns-clause-made c =
    let a = c.args in
    let m = a.lines.now in
    all-relaid (cutting_by a.cuts) m.lanes.now m.boundaries.now m.stop_lines.now m.crosswalks.now m.coordinates.now a.drawn.now c.requires.0 c.requires.1 c.draw-behind.result c.draw-behind.new.out c.draw-behind.ensures c.draw-behind.auto.out c.draw.new.out c.draw.ensures.1 c.draw.auto.out c.cut_boundaries.new.t c.cut_boundaries.ensures c.cut_lanes.new.t c.cut_lanes.ensures (lines_tables c.lay_out.new.lines) c.lay_out.ensures.made
