-- `yard::tenths` truncates what lies within the range. Assumes nothing.
use Rattle.std.proofs.Common.{T, sym, subst}
use lib.Ieee.{of_bits, neg}
use Rattle.yard.proofs.tenths.Goals as goal

pub truncating_f64_to_u64-n-requires-clause-lower_bound : goal.truncating_f64_to_u64-n-requires-clause-lower_bound
unfolding of_bits neg
truncating_f64_to_u64-n-requires-clause-lower_bound g c = subst T (sym c.if-t.true) tt

pub truncating_f64_to_u64-n-requires-clause-upper_bound : goal.truncating_f64_to_u64-n-requires-clause-upper_bound
unfolding of_bits neg
truncating_f64_to_u64-n-requires-clause-upper_bound g c = subst T (sym c.if-t-2.true) tt
