-- `split_rules::mark_rules` meets its contract. The invariant: the first i rules are marked. Assumes nothing.
use Rattle.split_rules.proofs.Passing.{Done}
use Rattle.split_rules.proofs.mark_rules.Given as goal

abbrev pub invariant-loop-i : goal.invariant-loop-i
invariant-loop-i l = Done l.join l.map.coordinates.now l.map.lanes.now l.map.boundaries.now l.point l.cut l.stations l.rules l.stop_lines l.crosswalks l.initial.anchored l.initial.past l.i l.anchored l.past
