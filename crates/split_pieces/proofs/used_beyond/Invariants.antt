-- `split_pieces::used_beyond` meets its contract. The invariant: no lane before row j that is not marked uses the boundary. Assumes nothing.
use mathlib.Core.Logic.{⊎_elim}
use Prim.Native.Nat.{◌-◌, ◌≤◌}
use native.Mathlib.Omega.{arith}
use Rattle.tables.specs.View.{word}
use Rattle.lookup.proofs.Laws.{sorted-room, sorted-few}
use Rattle.split_pieces.proofs.Beyond.{Unused, beyond-begins, beyond-marked, beyond-none, beyond-stops, beyond-ends}
use Rattle.split_pieces.proofs.used_beyond.Given as goal

abbrev pub invariant-loop-j : goal.invariant-loop-j
invariant-loop-j l = (l.j ≤ word 0 l.lanes) × Unused l.seen l.lanes l.id l.j
