-- `yard::each_point` ends: the measure is how many points are left. Assumes nothing.
use Rattle.std.proofs.Common.{◌-◌, ◌≤◌, rules}
use Rattle.yard.proofs.each_point.Given as goal

abbrev pub invariant-loop-i : goal.invariant-loop-i
invariant-loop-i g l = (l.i ≤ l.size) × ((l.start ≤ 65536) × (l.size ≤ 65536))

abbrev pub decreases-loop-i : goal.decreases-loop-i
decreases-loop-i g l = l.size - l.i
