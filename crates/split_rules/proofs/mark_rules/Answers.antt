-- `split_rules::mark_rules` meets its contract. The invariant: the first i rules are marked. Assumes nothing.
use native.Mathlib.Omega.{arith}
use Rattle.split_rules.proofs.Passing.{done_none, done_more, done_all, rules-some, rules-few, marks-room, rule-may}
use Rattle.split_rules.proofs.mark_rules.Goals as goal

pub bounds-rules-0 : goal.bounds-rules-0
bounds-rules-0 c = let a = c.args in omega (arith, rules-some a.join a.map.coordinates.now a.map.lanes.now a.map.boundaries.now a.point a.cut.now a.stations.now a.rules.now a.stop_lines.now a.crosswalks.now a.anchored.now a.past.now c.requires)

pub loop-i-init : goal.loop-i-init
loop-i-init c = let a = c.args in done_none a.join a.map.coordinates.now a.map.lanes.now a.map.boundaries.now a.point a.cut.now a.stations.now a.rules.now a.stop_lines.now a.crosswalks.now a.anchored.now a.past.now

pub overflow_mul-first : goal.overflow_mul-first
overflow_mul-first c = let a = c.args in omega (arith, rules-few a.join a.map.coordinates.now a.map.lanes.now a.map.boundaries.now a.point a.cut.now a.stations.now a.rules.now a.stop_lines.now a.crosswalks.now a.anchored.now a.past.now c.requires c.loop-i.i c.loop-i-test.true)

pub overflow_add-last : goal.overflow_add-last
overflow_add-last c = let a = c.args in omega (arith, rules-few a.join a.map.coordinates.now a.map.lanes.now a.map.boundaries.now a.point a.cut.now a.stations.now a.rules.now a.stop_lines.now a.crosswalks.now a.anchored.now a.past.now c.requires c.loop-i.i c.loop-i-test.true)

pub slice_bounds-mark_rule-count : goal.slice_bounds-mark_rule-count
slice_bounds-mark_rule-count c = omega arith

pub slice_bounds-mark_rule-start : goal.slice_bounds-mark_rule-start
slice_bounds-mark_rule-start c = omega arith

pub slice_bounds-mark_rule-end : goal.slice_bounds-mark_rule-end
slice_bounds-mark_rule-end c = let a = c.args in omega (arith, marks-room a.join a.map.coordinates.now a.map.lanes.now a.map.boundaries.now a.point a.cut.now a.stations.now a.rules.now a.stop_lines.now a.crosswalks.now a.anchored.now a.past.now c.requires c.loop-i.i c.loop-i-test.true, c.loop-i.invariant.long)

pub mark_rule-requires : goal.mark_rule-requires
mark_rule-requires c = let a = c.args in rule-may a.join a.map.coordinates.now a.map.lanes.now a.map.boundaries.now a.point a.cut.now a.stations.now a.rules.now a.stop_lines.now a.crosswalks.now a.anchored.now a.past.now c.requires c.loop-i.i c.loop-i-test.true c.loop-i.past c.loop-i.invariant.long

pub bounds-anchored-i : goal.bounds-anchored-i
bounds-anchored-i c = omega (arith, c.loop-i-test.true, c.requires.anchors, c.loop-i.invariant.tested.same)

pub loop-i-preserved : goal.loop-i-preserved
loop-i-preserved c = let a = c.args in done_more a.join a.map.coordinates.now a.map.lanes.now a.map.boundaries.now a.point a.cut.now a.stations.now a.rules.now a.stop_lines.now a.crosswalks.now a.anchored.now a.past.now c.requires c.loop-i.i c.loop-i-test.true c.loop-i.anchored c.loop-i.past c.loop-i.invariant c.mark_rule.result c.mark_rule.new.past c.mark_rule.ensures

pub shape_of-anchored : goal.shape_of-anchored
shape_of-anchored c = c.loop-i.invariant.tested.same

pub shape_of-past : goal.shape_of-past
shape_of-past c = c.loop-i.invariant.long

pub returns : goal.returns
returns c = let a = c.args in done_all a.join a.map.coordinates.now a.map.lanes.now a.map.boundaries.now a.point a.cut.now a.stations.now a.rules.now a.stop_lines.now a.crosswalks.now a.anchored.now a.past.now c.loop-i.i c.loop-i.anchored c.loop-i.past c.loop-i.invariant c.loop-i-test.false
