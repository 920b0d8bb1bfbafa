-- `lay_out::lay_out` meets its contract, by each of its three ways. Assumes nothing.
use Rattle.in_place.proofs.Laying.{order-asks, settle-asks}
use Rattle.lay_out.proofs.lay_out.Goals as goal

pub in_order-requires : goal.in_order-requires
in_order-requires c =
    let a = c.args in
    let m = a.lines.now in
    order-asks m.lanes.now m.boundaries.now m.stop_lines.now m.crosswalks.now m.coordinates.now a.drawn.now a.reach c.requires

pub settle-requires : goal.settle-requires
settle-requires c =
    let a = c.args in
    let m = a.lines.now in
    settle-asks m.lanes.now m.boundaries.now m.stop_lines.now m.crosswalks.now m.coordinates.now a.drawn.now a.reach c.requires c.in_order.result c.in_order.ensures (cc)
