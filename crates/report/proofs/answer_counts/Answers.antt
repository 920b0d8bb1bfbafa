use borrow.Author.Rules.{rules}
use Rattle.report.proofs.answer_counts.Goals as goal

-- src/lib.rt:82:5
pub returns-in-Err : goal.returns-in-Err
returns-in-Err c = cc
