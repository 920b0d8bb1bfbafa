-- `merge_tables::relink_row` meets its contract. Assumes nothing.
use Rattle.merge_draw.proofs.Lanes.{links-room, place-asks, came, came-not}
use Rattle.merge_tables.proofs.relink_row.Goals as goal

pub lists_lane-came-requires : goal.lists_lane-came-requires
lists_lane-came-requires c = links-room c.args.row.now c.args.first c.args.second c.requires

pub place-requires : goal.place-requires
place-requires c = place-asks c.args.row.now c.args.first c.args.second c.requires c.forget_lane.new.row c.forget_lane.ensures

pub returns-then-came : goal.returns-then-came
returns-then-came c = came c.args.row.now c.args.first c.args.second c.requires c.forget_lane.new.row c.forget_lane.ensures c.lists_lane-came.result c.lists_lane-came.ensures c.if-came.true c.place.new.row c.place.ensures

pub returns-else-came : goal.returns-else-came
returns-else-came c = came-not c.args.row.now c.args.first c.args.second c.requires c.forget_lane.new.row c.forget_lane.ensures c.lists_lane-came.result c.lists_lane-came.ensures c.if-came.false
