-- `split_stations::choose` meets its contract: the group's marks, or the lane's own alone. Assumes nothing.
use borrow.Author.Rules.{rules}
use Rattle.split_plan.proofs.Marks.{group-marked, own_room, own-marked}
use Rattle.split_stations.proofs.choose.Goals as goal

pub returns-then-neighbors : goal.returns-then-neighbors
returns-then-neighbors c = group-marked c.args.lanes.now c.requires.0 c.args.i c.requires.1.0 c.args.seen.now c.requires.1.1.0 c.args.neighbors c.if-neighbors.true c.lateral_group.new.seen c.lateral_group.ensures

pub bounds-seen-i : goal.bounds-seen-i
bounds-seen-i c = own_room c.args.lanes.now c.requires.0 c.args.i c.requires.1.0 c.args.seen.now c.requires.1.1.0

pub returns : goal.returns
returns c = own-marked c.args.lanes.now c.requires.0 c.args.i c.requires.1.0 c.args.seen.now c.requires.1.1.0 c.requires.1.1.1 c.args.neighbors c.if-neighbors.false
