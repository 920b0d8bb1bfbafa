-- `root::guess::nearest` meets its contract: what equals itself is no NaN. Assumes nothing.
use Rattle.std.proofs.Common.{rules}
use Rattle.root.proofs.Ordinary.{eq-no-nan}
use Rattle.root.proofs.guess.nearest.Goals as goal

pub float_to_bits-guess : goal.float_to_bits-guess
float_to_bits-guess c = eq-no-nan c.args.guess c.if-guess.true
