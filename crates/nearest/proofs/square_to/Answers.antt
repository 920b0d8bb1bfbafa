-- `nearest::square_to` meets its contract. Assumes nothing.
use Rattle.nearest.specs.Square.{square}
use Rattle.nearest.proofs.square_to.Goals as goal

pub returns : goal.returns
unfolding square
returns c = rw (c.dot.ensures, c.sub-d.ensures, c.xy.ensures)
