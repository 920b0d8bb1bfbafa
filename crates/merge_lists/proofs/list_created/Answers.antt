use borrow.Author.Rules.{rules}
use Rattle.report.specs.Report.{listed}
use Rattle.merge_lists.proofs.list_created.Goals as goal

-- src/lib.rt:35:1
pub returns : goal.returns
unfolding listed
returns c = c.list_up.ensures.1
