-- `split_rules::mark_lanes` meets its contract. The invariant: the marks before place p are written. Assumes nothing.
use Prim.Native.Nat.{◌≤◌}
use lib.ListN.{length}
use Rattle.split_rules.specs.Past.{lane_past}
use Rattle.split_rules.proofs.Passing.{Listed}
use Rattle.split_rules.proofs.mark_lanes.Given as goal

abbrev pub invariant-loop-p : goal.invariant-loop-p
invariant-loop-p l = (l.p ≤ length l.ids) × Listed (lane_past l.join l.map.coordinates.now l.map.lanes.now l.map.boundaries.now l.point l.cut l.stations l.anchor) l.ids l.initial.past l.p l.past
