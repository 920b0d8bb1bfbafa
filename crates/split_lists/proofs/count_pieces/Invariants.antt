-- `split_lists::count_pieces` meets its contract. The invariant: the warnings of the first j pieces are counted. Assumes nothing.
use mathlib.Core.Path.{◌≡◌}
use Prim.Native.Nat.{◌≤◌}
use lib.ListN.{length}
use Rattle.split_lists.specs.Changes.{pieces_issues}
use Rattle.split_lists.proofs.count_pieces.Given as goal

abbrev pub invariant-loop-j : goal.invariant-loop-j
invariant-loop-j l = (l.j ≤ l.m) × ((l.count ≤ l.j) × (l.count ≡ length (pieces_issues l.pieces 0 l.j)))
