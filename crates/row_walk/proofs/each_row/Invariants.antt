-- `row_walk::each_row` meets its contract. The invariant: the first i rows are changed, whatever the change, and the others as they were. Assumes nothing.
use Rattle.std.proofs.Common.{◌≡◌, ℕ, ◌+◌, ◌*◌, ◌<◌, ◌≤◌, List, length, drop}
use denote.Ref.{MutBor}
use Rattle.store.specs.Rows.{map_rows}
use Rattle.tables.specs.View.{word}
use Rattle.lookup.specs.Lookup.{row_at}
use Rattle.row_walk.proofs.Turning.{Turned}
use Rattle.row_walk.proofs.each_row.Given as goal

abbrev pub invariant-loop-i : goal.invariant-loop-i
invariant-loop-i g l =
    (l.i ≤ word 0 l.initial.t)
    × (length l.t ≡ length l.initial.t)
    × (drop (1 + l.i * l.row) l.t ≡ drop (1 + l.i * l.row) l.initial.t)
    × ((h : List ℕ → List ℕ) → ((i : ℕ) → i < word 0 l.initial.t → (w : MutBor (List ℕ)) → (v : MutBor (List ℕ)) → w.now ≡ row_at l.row l.initial.t i → g.F.Fn.post l.change (w, tt) (tt, (v, tt)) → v.now ≡ h (row_at l.row l.initial.t i))
    → Turned l.row (λ j n w. map_rows l.row h n w) l.initial.t l.t l.i)
