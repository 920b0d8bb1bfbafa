-- `once::each_once` meets its contract. The invariant: the ids before i are distinct, and the mark of each is set. An id whose mark is not set is none of
-- those; where it is set, the search among them decides. Assumes nothing.
use mathlib.Core.Path.{refl, sym, ◌∙◌}
use mathlib.Core.Bool.{false}
use mathlib.Core.Logic.{⊎_elim}
use Prim.Native.Nat.{◌-◌}
use native.Mathlib.Nat.{mod-lt}
use native.Mathlib.Omega.{arith}
use lib.ListN.{length, get_or, replicate}
use lib.Seq.{length-take-le}
use Rattle.once.proofs.Once.{Walked, walked_none, unmarked-lacks, walked_more, repeats, walked_all}
use Rattle.once.proofs.each_once.Given as goal

abbrev pub invariant-loop-i : goal.invariant-loop-i
invariant-loop-i l = Walked l.ids l.seen l.i
