-- `split_rules::mark_lanes` meets its contract. The invariant: the marks before place p are written. Assumes nothing.
use native.Mathlib.Omega.{arith}
use Rattle.split_rules.specs.Past.{lane_past}
use Rattle.split_rules.proofs.Passing.{listed-none, listed_more, listed-all}
use Rattle.split_rules.proofs.mark_lanes.Goals as goal

pub loop-p-init : goal.loop-p-init
loop-p-init c = let a = c.args in (omega arith, listed-none (lane_past a.join a.map.coordinates.now a.map.lanes.now a.map.boundaries.now a.point a.cut.now a.stations.now a.anchor) a.ids.now a.past.now)

pub offset_bounds-ids-p : goal.offset_bounds-ids-p
offset_bounds-ids-p c = omega (arith, c.loop-p-test.true)

pub bounds-ids-p : goal.bounds-ids-p
bounds-ids-p c = omega (arith, c.loop-p-test.true)

pub lane_past-requires : goal.lane_past-requires
lane_past-requires c = (c.requires.0, c.requires.1.0)

pub bounds-past-p : goal.bounds-past-p
bounds-past-p c = omega (arith, c.loop-p-test.true, c.loop-p.invariant.1.same, c.requires.1.1)

pub loop-p-preserved : goal.loop-p-preserved
loop-p-preserved c = let a = c.args in (omega (arith, c.loop-p-test.true), listed_more (lane_past a.join a.map.coordinates.now a.map.lanes.now a.map.boundaries.now a.point a.cut.now a.stations.now a.anchor) a.ids.now a.past.now c.loop-p.p c.loop-p.past c.loop-p.invariant.1 c.loop-p-test.true c.requires.1.1 c.lane_past.result c.lane_past.ensures)

pub shape_of-past : goal.shape_of-past
shape_of-past c = c.loop-p.invariant.1.same

pub returns : goal.returns
returns c = let a = c.args in listed-all (lane_past a.join a.map.coordinates.now a.map.lanes.now a.map.boundaries.now a.point a.cut.now a.stations.now a.anchor) a.ids.now a.past.now c.loop-p.p c.loop-p.past c.loop-p.invariant.1 c.loop-p-test.false
