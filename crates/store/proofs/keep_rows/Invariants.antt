-- `store::keep_rows` meets its contract. Assumes nothing.
use Rattle.store.specs.Rows.{stays}
use Rattle.store.proofs.Turns.{Moved}
use Rattle.store.proofs.keep_rows.Given as goal

abbrev pub invariant-loop-i : goal.invariant-loop-i
invariant-loop-i l = Moved l.s (stays l.a l.b) l.initial.t l.t l.i l.kept
