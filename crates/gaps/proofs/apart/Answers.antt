-- `edit::links::apart` meets its contract. Assumes nothing.
use borrow.Author.Rules.{rules}
use Rattle.relink.proofs.Gap.{apart-told}
use Rattle.gaps.proofs.apart.Goals as goal

pub returns : goal.returns
returns c = apart-told c.args.tolerance c.distance.result c.args.p c.args.q c.in-Some.a c.in-Some-q.b c.in-Some.is c.in-Some-q.is c.distance.ensures
