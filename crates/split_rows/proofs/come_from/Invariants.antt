-- `split_rows::come_from` meets its contract: the loop keeps those that stay at the front of the list and the second halves beside it. Assumes nothing.
use Prim.Native.Nat.{◌-◌}
use mathlib.Core.Path.{◌≡◌, refl, ◌∙◌}
use native.Mathlib.Omega.{arith}
use Rattle.tables.specs.View.{word}
use Rattle.split_rows.proofs.Coming.{Coming, coming-none, coming-bounds, coming-cut, coming-stays, coming-done}
use Rattle.split_rows.proofs.Slots.{cut-asks, second_fits}
use lib.ListN.{replicate}
use lib.Seq.{length-take-le}
use mathlib.Core.Logic.{⊎_elim}
use borrow.Author.Rules.{rules}
use Rattle.split_rows.proofs.come_from.Given as goal

abbrev pub invariant-loop-i : goal.invariant-loop-i
invariant-loop-i l = (Coming l.cut l.next l.initial.row l.initial.seconds l.row l.seconds l.left l.came l.i) × (l.n ≡ word 18 l.initial.row)
