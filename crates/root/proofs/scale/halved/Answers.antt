-- `root::scale::halved` meets its contract. Assumes nothing.
use Rattle.std.proofs.Common.{rules}
use Rattle.root.proofs.Places.{scaled}
use Rattle.root.proofs.scale.halved.Goals as goal

pub returns : goal.returns
returns c = scaled c.args.m c.args.places c.requires.0 c.requires.1.0 c.requires.1.1.0 c.requires.1.1.1
