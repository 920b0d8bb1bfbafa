use Rattle.split_arrays.proofs.+relay_large.Given as goal

abbrev pub decreases-relay_large : goal.decreases-relay_large
decreases-relay_large l = 0
