-- `split_room::center_points` meets its contract. Assumes nothing.
use Rattle.split_room.proofs.Points.{center_none, center_some}
use Rattle.split_room.proofs.center_points.Goals as goal

pub returns-then-lanes-row-eq0 : goal.returns-then-lanes-row-eq0
returns-then-lanes-row-eq0 c = center_none c.args.lanes.now c.args.i c.if-lanes-row-eq0.true

pub returns : goal.returns
returns c = center_some c.args.lanes.now c.args.i c.if-lanes-row-eq0.false
