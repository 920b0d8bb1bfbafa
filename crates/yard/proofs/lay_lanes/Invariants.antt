-- `yard::lay_lanes` ends: the measure is how many lanes are left. Assumes nothing.
use Rattle.std.proofs.Common.{◌≡◌, ◌-◌, ◌≤◌, length, rules}
use Rattle.yard.proofs.lay_lanes.Given as goal

abbrev pub invariant-loop-i : goal.invariant-loop-i
invariant-loop-i l = (l.i ≤ l.n) × ((l.n ≤ 8) × (length l.lanes ≡ length l.initial.lanes))
