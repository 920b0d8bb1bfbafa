-- `uses::any_row` meets its contract: a row passes where one from i on does, whatever the test. Assumes nothing.
use Rattle.std.proofs.Common.{ℕ, Bool, ◌≡◌, ◌<◌, List}
use Rattle.tables.specs.View.{word}
use Rattle.lookup.specs.Lookup.{any_row, row_at}
use Rattle.lookup.proofs.Laws.{any_from}
use Rattle.uses.proofs.any_row.Given as goal

abbrev pub invariant-loop-i : goal.invariant-loop-i
invariant-loop-i g l = (h : List ℕ → Bool) → ((i : ℕ) (b : Bool) → i < word 0 l.lanes → g.F.Fn.post l.test (i, tt) b → b ≡ h (row_at 52 l.lanes i)) → any_row 52 h l.lanes ≡ any_from 52 h l.lanes l.i
