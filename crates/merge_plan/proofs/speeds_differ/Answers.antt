-- `merge_plan::speeds_differ` meets its contract: by which limits there are. Assumes nothing.
use borrow.Author.Rules.{rules}
use Rattle.merge_plan.proofs.Readings.{first-unlimited, second-unlimited, both-limited}
use Rattle.merge_plan.proofs.speeds_differ.Goals as goal

pub returns-then-one-eq0 : goal.returns-then-one-eq0
returns-then-one-eq0 c = first-unlimited c.args.one c.args.x c.args.two c.args.y c.if-one-eq0.true

pub returns-then-two-eq0 : goal.returns-then-two-eq0
returns-then-two-eq0 c = second-unlimited c.args.one c.args.x c.args.two c.args.y c.if-one-eq0.false c.if-two-eq0.true

pub returns : goal.returns
returns c = both-limited c.args.one c.args.x c.args.two c.args.y c.if-one-eq0.false c.if-two-eq0.false c.double.result c.double-2.result c.double.ensures c.double-2.ensures
