-- `naming::forget` meets its contract. The invariant: the first i rows have forgotten the lane, and the others are as they were. Assumes nothing.
use Prim.Native.Nat.{◌+◌, ◌*◌, ◌-◌, ◌≤◌}
use native.Mathlib.Omega.{arith}
use borrow.Author.Rules.{rules}
use lib.ListN.{length}
use Rattle.mentions.proofs.Turns.{formed-some, formed-few, lent-room}
use Rattle.mentions.specs.Naming.{forgets}
use Rattle.mentions.proofs.Going.{forgets-length}
use Rattle.mentions.proofs.Whole.{Changed, changed-none, changed-length, changed-room, changed-formed, changed-turn, changed-all}
use Rattle.forgets.proofs.forget.Given as goal

abbrev pub invariant-loop-i : goal.invariant-loop-i
invariant-loop-i l = Changed l.rows (forgets l.rows l.id) l.initial.t l.t l.i
