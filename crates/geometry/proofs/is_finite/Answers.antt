-- `geometry::is_finite` meets its contract. Assumes nothing.
use Rattle.geometry.proofs.Finite.{difference-finite}
use Rattle.geometry.proofs.is_finite.Goals as goal

pub returns : goal.returns
returns c = difference-finite c.args.x
