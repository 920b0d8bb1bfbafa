-- `root::guess::guess` meets its contract: neither pattern is a NaN's. Assumes nothing.
use Rattle.std.proofs.Common.{arith, rules}
use Rattle.root.specs.Guess.{guess_of, stepped}
use Rattle.root.proofs.Units.{no-nan-bits}
use Rattle.root.proofs.guess.guess.Goals as goal

pub float_from_bits-v : goal.float_from_bits-v
float_from_bits-v c = no-nan-bits _ (omega arith)

pub float_from_bits-m : goal.float_from_bits-m
float_from_bits-m c = no-nan-bits _ (omega arith)

pub returns : goal.returns
unfolding guess_of stepped
returns c = rw (c.factor.ensures, c.seed.ensures)
