-- `store::drop_rows` meets its contract. Assumes nothing.
use mathlib.Core.Bool.{not}
use Rattle.lists.specs.Select.{has}
use Rattle.store.proofs.Turns.{Moved}
use Rattle.store.proofs.drop_rows.Given as goal

abbrev pub invariant-loop-i : goal.invariant-loop-i
invariant-loop-i l = Moved l.s (λ i. not (has i l.gone)) l.initial.t l.t l.i l.kept
