-- What the last two clauses ask of a lane's row: its links, or its neighbours, name it back.
use Rattle.std.specs.Prelude.{ℕ, Bool, List}
use Rattle.row_tests.specs.Returned.{lane_returned, slots_returned}
use Rattle.row_faults.specs.declared.Clause.{Clause}
use Rattle.row_faults.specs.declared.Clause.TheVariants.{Returns}

unfoldable pub named_back : Clause → List ℕ → List ℕ → Bool
named_back Returns t w = lane_returned t w
named_back _ t w = slots_returned t w
