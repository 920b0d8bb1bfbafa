-- `merge_points::rows_sum` meets its contract. The invariant: what is counted are the counts of the rows before i, whatever they are. Assumes nothing.
use Rattle.std.proofs.Common.{ℕ, ◌≡◌, ◌≤◌, ◌*◌, List, length}
use Rattle.std.specs.Fn.{FnReturnsAt}
use Rattle.tables.specs.View.{word}
use Rattle.room.proofs.Sums.{Summed}
use Rattle.merge_points.proofs.rows_sum.Given as goal

abbrev pub invariant-loop-i : goal.invariant-loop-i
invariant-loop-i g l =
    (l.i ≤ word 0 l.t)
    × (l.sum ≤ l.i * 512)
    × ((h : List ℕ → ℕ) → ((w : List ℕ) (n : ℕ) → length w ≡ l.row → FnReturnsAt g.F.Fn l.counts w n → n ≡ h w) → Summed l.row h l.t 512 l.i l.sum)
