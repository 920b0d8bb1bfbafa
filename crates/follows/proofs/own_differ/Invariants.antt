-- `follows::own_differ` meets its contract. The invariant: of the first r cut lanes none changes the list, so one of the others does where one of all does.
-- Assumes nothing.
use mathlib.Core.Path.{◌≡◌, refl, sym, ◌∙◌}
use mathlib.Core.Logic.{⊎_elim}
use mathlib.Core.Bool.{true, false, ◌&&◌, cond}
use Prim.Native.Nat.{◌-◌, ◌≤◌}
use native.Mathlib.Omega.{arith}
use lib.ListN.{length, get_or, drop}
use Rattle.lists.specs.Select.{any, has}
use Rattle.tables.specs.View.{ids_at}
use Rattle.follows.specs.Following.{first_place}
use Rattle.follows.proofs.Differs.{any_here, any-on, any-over, differs-behind, differs-by, differs-not}
use Rattle.follows.proofs.own_differ.Given as goal

abbrev pub invariant-loop-r : goal.invariant-loop-r
invariant-loop-r l = (l.r ≤ length l.cut) × (any (λ i. has i (ids_at 5 l.row) && cond l.anchored (get_or l.past (first_place i (ids_at 5 l.row)) false) true) l.cut ≡ any (λ i. has i (ids_at 5 l.row) && cond l.anchored (get_or l.past (first_place i (ids_at 5 l.row)) false) true) (drop l.r l.cut))
