-- `naming::slot_names` meets its contract: by the slot's mark, then by its lane. Assumes nothing.
use borrow.Author.Rules.{rules}
use Rattle.mentions.proofs.Tests.{slot-free, slot_held}
use Rattle.mentions.proofs.slot_names.Goals as goal

pub returns-then-row-k-eq-NONE : goal.returns-then-row-k-eq-NONE
returns-then-row-k-eq-NONE c = slot-free c.args.row.now c.args.k c.args.id c.if-row-k-eq-NONE.true

pub returns : goal.returns
returns c = slot_held c.args.row.now c.args.k c.args.id c.if-row-k-eq-NONE.false
