-- `split_pieces::count_ids` meets its contract. The invariant: the ids of the marked boundaries before row x are counted. Assumes nothing.
use mathlib.Core.Logic.{⊎_elim}
use Prim.Native.Nat.{◌-◌, ◌≤◌}
use native.Mathlib.Omega.{arith}
use Rattle.tables.specs.View.{word}
use Rattle.lookup.proofs.Laws.{sorted-room, sorted-few, sorted-row}
use Rattle.split_pieces.proofs.Listed.{Counted, count-begins, count_none, count-one, count-ends}
use Rattle.split_pieces.proofs.count_ids.Given as goal

abbrev pub invariant-loop-x : goal.invariant-loop-x
invariant-loop-x l = (l.x ≤ word 0 l.boundaries) × Counted l.seen l.lanes l.boundaries l.marks l.x l.ids
