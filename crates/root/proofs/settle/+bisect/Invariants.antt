-- The invariant: `low` reaches below a * 2 ^ 52 rounded up, and `high` does not. The measure of the loop is their distance. The branch in which
-- it calls itself is never taken.
use Rattle.std.proofs.Common.{◌+◌, ◌-◌, ◌*◌, ◌^◌, ◌<◌, ◌≤◌}
use Rattle.root.proofs.settle.+bisect.Given as goal

abbrev pub decreases-bisect : goal.decreases-bisect
decreases-bisect l = 0

abbrev pub invariant-loop-high : goal.invariant-loop-high
invariant-loop-high l =
    (l.low * l.low < l.a * 2 ^ 52 + l.low) × ((l.a * 2 ^ 52 + l.high ≤ l.high * l.high) × ((l.low < l.high) × ((2 ^ 52 ≤ l.low) × (l.high ≤ 2 ^ 53))))

abbrev pub decreases-loop-high : goal.decreases-loop-high
decreases-loop-high l = l.high - l.low
