use Rattle.gathers_apart.proofs.+gather_apart.Given as goal

abbrev pub decreases-gather_apart : goal.decreases-gather_apart
decreases-gather_apart l = 0
