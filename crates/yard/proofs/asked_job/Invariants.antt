-- `yard::asked_job` ends: the measure is how many commands are left. Assumes nothing.
use Rattle.std.proofs.Common.{◌-◌, ◌≤◌, rules}
use Rattle.yard.proofs.asked_job.Given as goal

abbrev pub invariant-loop-i : goal.invariant-loop-i
invariant-loop-i g l = (l.i ≤ l.n) × (l.n ≤ 3)

abbrev pub decreases-loop-i : goal.decreases-loop-i
decreases-loop-i g l = l.n - l.i
