-- `lane_lists::list_gone` meets its contract: the lane, then the first of its boundaries, then the second, each behind what stands there. Assumes nothing.
use borrow.Author.Rules.{rules}
use Rattle.lane_lists.proofs.Listed.{front-room, last-room, gone-listed}
use Rattle.lane_lists.proofs.list_gone.Goals as goal

pub put_where-two-requires : goal.put_where-two-requires
put_where-two-requires c =
    let a = c.args in
    let one = c.put_where-one in
    front-room a.deleted.now a.lane a.gone.count a.gone.first a.gone.second c.requires c.from.result c.from-boundary.result c.from.ensures c.from-boundary.ensures one.result one.new.out one.ensures.0 one.ensures.1

pub put_where-requires : goal.put_where-requires
put_where-requires c =
    let a = c.args in
    let one = c.put_where-one in
    let two = c.put_where-two in
    last-room a.deleted.now a.lane a.gone.count a.gone.first a.gone.second c.requires c.from.result c.from-boundary.result c.from.ensures c.from-boundary.ensures one.result one.new.out one.ensures.0 one.ensures.1 two.result two.new.out two.ensures.0 two.ensures.1

pub returns : goal.returns
returns c =
    let a = c.args in
    let one = c.put_where-one in
    let two = c.put_where-two in
    let three = c.put_where in
    gone-listed a.deleted.now a.lane a.gone.count a.gone.first a.gone.second c.requires c.from.result c.from-boundary.result c.from.ensures c.from-boundary.ensures one.result one.new.out one.ensures.0 one.ensures.1 two.result two.new.out two.ensures.0 two.ensures.1 three.result three.new.out three.ensures.0 three.ensures.1
