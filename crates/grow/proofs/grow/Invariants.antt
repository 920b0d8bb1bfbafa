-- `grow::grow` meets its contract. The invariant: the ids from i on stand where they go, each cut one with its second half behind it; `to` is how many slots the ids
-- before i need, and what is still to be written is what they want written. The measure is i. Assumes nothing.
use Rattle.lists.specs.Select.{numbered}
use Rattle.grow.proofs.Growing.{Grows}
use Rattle.grow.proofs.grow.Given as goal

abbrev pub invariant-loop-i : goal.invariant-loop-i
invariant-loop-i l =
    Grows (numbered l.next l.cut) l.initial.slots l.n l.slots l.i l.to l.written

abbrev pub decreases-loop-i : goal.decreases-loop-i
decreases-loop-i l = l.i
