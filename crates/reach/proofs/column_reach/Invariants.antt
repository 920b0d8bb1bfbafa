-- `reach::column_reach` meets its contract. The invariant: the whole reach is that of the rows from i on, or the place as it is. Assumes nothing.
use Prim.Native.Nat.{◌≤◌}
use Rattle.layout.specs.Layout.{plain}
use Rattle.layout.proofs.Reach.{Far}
use Rattle.reach.proofs.column_reach.Given as goal

abbrev pub invariant-loop-i : goal.invariant-loop-i
invariant-loop-i l = (l.i ≤ l.n) × Far (plain l.stride l.offset) l.t l.most l.n l.i l.far
