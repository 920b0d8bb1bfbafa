-- `naming::list` meets its contract. The invariant: the ids of the first i rows are listed. Assumes nothing.
use mathlib.Core.Path.{ap, ◌∙◌}
use Prim.Native.Nat.{◌+◌, ◌*◌, ◌-◌, ◌≤◌}
use native.Mathlib.Omega.{arith}
use borrow.Author.Rules.{rules}
use lib.ListN.{length}
use Rattle.entities.specs.Types.{kind_number}
use Rattle.mentions.proofs.Turns.{formed-some, formed-few, lent-room, words-some, lent-formed, Listed, list-none, list_length, list-room, list-turn, list_all}
use Rattle.mentions.proofs.list.Given as goal

abbrev pub invariant-loop-i : goal.invariant-loop-i
invariant-loop-i l = Listed l.rows l.id l.t l.initial.out l.at l.out l.i l.place
