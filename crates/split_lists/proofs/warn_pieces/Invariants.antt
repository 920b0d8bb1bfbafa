-- `split_lists::warn_pieces` meets its contract. The invariant: the warnings of the first j pieces stand in the first rows. Assumes nothing.
use Prim.Native.Nat.{◌≤◌}
use Rattle.split_lists.specs.Changes.{pieces_issues}
use Rattle.split_lists.proofs.Noted.{Stand}
use Rattle.split_lists.proofs.warn_pieces.Given as goal

abbrev pub invariant-loop-j : goal.invariant-loop-j
invariant-loop-j l = (l.j ≤ l.m) × Stand l.initial.warnings 0 (pieces_issues l.pieces 0 l.j) l.warnings l.at
