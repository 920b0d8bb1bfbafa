-- `yard::lay_boundaries` ends: the measure is how many boundaries are left. Assumes nothing.
use Rattle.std.proofs.Common.{◌≡◌, ◌-◌, ◌≤◌, length, rules}
use Rattle.yard.proofs.lay_boundaries.Given as goal

abbrev pub invariant-loop-i : goal.invariant-loop-i
invariant-loop-i l = (l.i ≤ l.n) × ((l.n ≤ 10) × ((l.first ≤ 101) × (length l.boundaries ≡ length l.initial.boundaries)))
