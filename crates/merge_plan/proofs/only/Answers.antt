-- `merge_plan::only` meets its contract: by the list's length. Assumes nothing.
use borrow.Author.Rules.{rules}
use Rattle.merge_plan.proofs.Readings.{only_one, only-other}
use Rattle.merge_plan.proofs.only.Goals as goal

pub returns-then-ids-eq1 : goal.returns-then-ids-eq1
returns-then-ids-eq1 c = only_one c.args.ids.now c.args.id c.if-ids-eq1.true

pub returns : goal.returns
returns c = only-other c.args.ids.now c.args.id c.if-ids-eq1.false
