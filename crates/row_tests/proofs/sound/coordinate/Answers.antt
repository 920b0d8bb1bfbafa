-- `map::sound::coordinate` meets its contract. The two bounds are the constants of the definition, by computation. Assumes nothing.
use lib.Ieee.{of_bits, neg}
use Rattle.geometry.specs.Float.{coordinate, reach}
use Rattle.row_tests.proofs.sound.coordinate.Goals as goal

pub returns : goal.returns
unfolding coordinate reach neg of_bits
returns c = rw c.both.ensures
