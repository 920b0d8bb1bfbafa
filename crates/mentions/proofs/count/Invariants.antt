-- `naming::count` meets its contract. The invariant: what is counted are the ids of the first i rows. Assumes nothing.
use mathlib.Core.Path.{◌≡◌, sym, ap, ◌∙◌}
use Prim.Native.Nat.{◌+◌, ◌*◌, ◌-◌, ◌≤◌}
use native.Mathlib.Omega.{arith}
use borrow.Author.Rules.{rules}
use lib.ListN.{length}
use mathlib.Core.Logic.{⊎_elim}
use Rattle.mentions.proofs.Turns.{formed-some, formed-few, lent-room, lent-formed, named_of, named_none, named-few, named-all, count-on, count-off}
use Rattle.mentions.proofs.count.Given as goal

abbrev pub invariant-loop-i : goal.invariant-loop-i
invariant-loop-i l = (l.i ≤ l.n) × (l.count ≡ length (named_of l.rows l.id l.t l.i))
