-- The whole answer, from the answers of its parts. Assumes nothing.
use mathlib.Core.Path.{◌≡◌, ◌∙◌}
use mathlib.Core.Bool.{true, false}
use mathlib.Core.List.{[], ◌∷◌}
use Prim.Native.Nat.{ℕ}
use Rattle.std.specs.Prelude.{Option, is_some}
use Rattle.std.specs.Option.{option_or}
use Rattle.tables.specs.View.{Tables, rows}
use Rattle.tables.specs.Formed.{all_clear}
use Rattle.apart.specs.Marks.{line_spans}
use Rattle.apart.proofs.Stored.{spans-lines}
use Rattle.row_tests.specs.Good.{largest_id}
use Rattle.row_faults.specs.declared.Clause.TheVariants.{Points, Returns, Neighbors}
use Rattle.row_faults.specs.declared.Table.TheVariants.{Lane, Coordinate}
use Rattle.row_returns.specs.Returns.{named_back}
use Rattle.faults.specs.declared.Fault.{Fault}
use Rattle.faults.specs.Faults.{fault_in, counts_fault, row_faults, tie_faults, found}
use Rattle.faults.proofs.Laws.{some-first, none-second, is-none, three}

module _ (counter : ℕ) (t : Tables) where
  pub rowed : (most : ℕ) (r : Option Fault) → most ≡ largest_id counter → r ≡ row_faults most t → r ≡ row_faults (largest_id counter) t
  rowed most r e h = rw e at h

  pub at-counts : (r : Option Fault) → r ≡ counts_fault t → is_some r ≡ true → r ≡ found counter t
  unfolding found
  at-counts r e h = rw (← e) (some-first r (option_or (row_faults (largest_id counter) t) (tie_faults t)) h)

  pub at_rows : (n r : Option Fault) → n ≡ counts_fault t → is_some n ≡ false → r ≡ row_faults (largest_id counter) t → is_some r ≡ true → r ≡ found counter t
  unfolding found
  at_rows n r e h f k = rw (← e, ← f) (some-first r (tie_faults t) k ∙ none-second n (option_or r (tie_faults t)) (is-none n h))

  ties : (p l b q s : Option Fault) → p ≡ fault_in Points Coordinate (all_clear (line_spans t.lanes t.boundaries t.stop_lines t.crosswalks) ∷ [])
      → l ≡ fault_in Returns Lane (rows 52 (named_back Returns t.lanes) t.lanes) → b ≡ fault_in Neighbors Lane (rows 52 (named_back Neighbors t.lanes) t.lanes)
      → q ≡ option_or p l → s ≡ option_or q b → s ≡ tie_faults t
  unfolding tie_faults
  ties p l b q s x y z u v = rw (← spans-lines t) at (three x y z u v)

  pub at-ties : (n r p l b q s : Option Fault) → n ≡ counts_fault t → is_some n ≡ false → r ≡ row_faults (largest_id counter) t → is_some r ≡ false
      → p ≡ fault_in Points Coordinate (all_clear (line_spans t.lanes t.boundaries t.stop_lines t.crosswalks) ∷ [])
      → l ≡ fault_in Returns Lane (rows 52 (named_back Returns t.lanes) t.lanes) → b ≡ fault_in Neighbors Lane (rows 52 (named_back Neighbors t.lanes) t.lanes)
      → q ≡ option_or p l → s ≡ option_or q b → s ≡ found counter t
  unfolding found
  at-ties n r p l b q s e h f k x y z u v =
      let tied : s ≡ tie_faults t = ties p l b q s x y z u v in
      tied ∙ rw (← e, ← f) (none-second r (tie_faults t) (is-none r k) ∙ none-second n (option_or r (tie_faults t)) (is-none n h))
