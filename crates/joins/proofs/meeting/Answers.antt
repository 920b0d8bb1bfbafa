-- `joins::meeting` meets its contract: by which of the two points is there. Assumes nothing.
use Rattle.polyline.specs.Polyline.{meeting}
use Rattle.joins.proofs.meeting.Goals as goal

pub returns-in_default : goal.returns-in_default
unfolding meeting
returns-in_default c = rw c.in_default.is

pub returns-in_default-start : goal.returns-in_default-start
unfolding meeting
returns-in_default-start c = rw (c.in-Some.is, c.in_default-start.is)

pub returns-then-distance-join : goal.returns-then-distance-join
unfolding meeting
returns-then-distance-join c =
    let t = rw c.distance.ensures at c.if-distance-join.true in
    rw (c.in-Some.is, c.in-Some-start.is, t)

pub returns-else-distance-join : goal.returns-else-distance-join
unfolding meeting
returns-else-distance-join c =
    let t = rw c.distance.ensures at c.if-distance-join.false in
    rw (c.in-Some.is, c.in-Some-start.is, t)
