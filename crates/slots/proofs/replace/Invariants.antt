-- `slots::replace` meets its contract. The invariant: the ids before i are replaced, and the others are as at entry. Assumes nothing.
use mathlib.Core.Path.{◌≡◌}
use mathlib.Core.Bool.{cond}
use mathlib.Core.List.{◌++◌, map}
use Prim.Native.Nat.{◌≤◌}
use lib.Dec.{eqb}
use lib.ListN.{length, take, drop}
use Rattle.slots.proofs.replace.Given as goal

abbrev pub invariant-loop-i : goal.invariant-loop-i
invariant-loop-i l = (l.i ≤ length l.initial.ids) × ((length l.ids ≡ length l.initial.ids) × (l.ids ≡ map (λ x. cond (eqb x l.from) l.to x) (take l.i l.initial.ids) ++ drop l.i l.initial.ids))
