-- `group::lateral_group` meets its contract. The invariant: what is marked was reached, each row marked stands in the queue, and the slots of
-- the rows before `done` lead to marked rows. The measure is how many places of the queue are left. Assumes nothing.
use Prim.Native.Nat.{◌-◌}
use Rattle.group.proofs.Steps.{Holds}
use Rattle.group.proofs.lateral_group.Given as goal

abbrev pub invariant-loop-done : goal.invariant-loop-done
invariant-loop-done l = Holds l.lanes l.i l.seen l.queue l.done l.end

abbrev pub decreases-loop-done : goal.decreases-loop-done
decreases-loop-done l = 1024 - l.done
