-- `split_pieces::list_pieces` meets its contract. The invariant: the pieces of the marked boundaries before row x are written. Assumes nothing.
use mathlib.Core.Logic.{⊎_elim}
use Prim.Native.Nat.{◌-◌, ◌≤◌}
use native.Mathlib.Omega.{arith}
use Rattle.tables.specs.View.{word}
use Rattle.lookup.proofs.Laws.{sorted-room, sorted-few, sorted-row}
use Rattle.split_pieces.proofs.Listed.{Listed, list-begins, list_length, list-none, list-may, list-room, list-one, list-ends}
use Rattle.split_pieces.proofs.list_pieces.Given as goal

abbrev pub invariant-loop-x : goal.invariant-loop-x
invariant-loop-x l = (l.x ≤ word 0 l.boundaries) × Listed l.seen l.lanes l.boundaries l.marks l.next l.initial.pieces l.x l.m l.id l.pieces
