-- `split_room::pieces_fit` meets its contract. The invariant: all pieces are short where those that are left are. Assumes nothing.
use Rattle.std.proofs.Common.{◌≡◌, ◌/◌, length}
use Rattle.std.specs.Slice.Iter.{chunks_exact_rest, chunks_exact_size}
use Rattle.split_room.specs.Fitting.{pieces_fit}
use Rattle.split_room.proofs.pieces_fit.Given as goal

abbrev pub invariant-loop-line : goal.invariant-loop-line
invariant-loop-line l =
    (goal.iterator-loop-line).can_next l.line-iterator
    × (goal.iterator-loop-line).is_finite l.line-iterator
    × (chunks_exact_size l.line-iterator ≡ 3)
    × (pieces_fit l.lines 0 (length l.lines / 3) ≡ pieces_fit (chunks_exact_rest l.line-iterator) 0 (length (chunks_exact_rest l.line-iterator) / 3))
