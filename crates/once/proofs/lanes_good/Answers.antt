-- `once::lanes_good` meets its contract: ids that ascend are distinct, and their last is the largest; of others both tests decide. Assumes nothing.
use mathlib.Core.Path.{sym, ◌∙◌}
use native.Mathlib.Omega.{arith}
use borrow.Author.Rules.{rules}
use Rattle.once.proofs.Once.{good_none, good-ascending}
use Rattle.once.proofs.lanes_good.Goals as goal

pub returns-then-ids-eq0 : goal.returns-then-ids-eq0
returns-then-ids-eq0 c = sym (good_none c.args.ids.now c.args.most c.if-ids-eq0.true)

pub returns-then-ascends : goal.returns-then-ascends
returns-then-ascends c =
    let ids = c.args.ids.now in
    sym (good-ascending ids c.args.most (sym c.ascends.ensures ∙ c.if-ascends.true) (omega arith))

pub returns-then-all_at_most : goal.returns-then-all_at_most
returns-then-all_at_most c = c.each_once.ensures ∙ rw (sym c.all_at_most.ensures ∙ c.if-all_at_most.true)

pub returns : goal.returns
returns c = rw (sym c.all_at_most.ensures ∙ c.if-all_at_most.false)
