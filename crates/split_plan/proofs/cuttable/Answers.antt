-- `split_plan::cuttable` meets its contract: the length is the line's. Assumes nothing.
use borrow.Author.Rules.{rules}
use mathlib.Core.Path.{◌∙◌}
use Rattle.split_plan.proofs.cuttable.Goals as goal

pub returns : goal.returns
returns c = c.both.ensures ∙ rw c.length.ensures
