-- `unused::lonely` meets its contract. Assumes nothing.
use borrow.Author.Rules.{rules}
use Rattle.unused.proofs.Boundaries.{lonely-there, lonely-missing}
use Rattle.unused.proofs.lonely.Goals as goal

pub returns-in-Some : goal.returns-in-Some
returns-in-Some c = lonely-there c.args.lanes.now c.args.boundaries.now c.args.lane c.args.id c.boundary-found.result c.boundary-found.ensures c.in-Some.field-0 c.used_besides.result c.in-Some.is c.used_besides.ensures

pub returns-in-None : goal.returns-in-None
returns-in-None c = lonely-missing c.args.lanes.now c.args.boundaries.now c.args.lane c.args.id c.boundary-found.result c.boundary-found.ensures c.in-None.is
