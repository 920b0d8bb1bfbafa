-- `root::guess::seed` meets its contract. Assumes nothing.
use Rattle.std.proofs.Common.{refl}
use Rattle.root.specs.Guess.{seed_of}
use Rattle.root.proofs.guess.seed.Goals as goal

pub returns : goal.returns
unfolding seed_of
returns c = refl
