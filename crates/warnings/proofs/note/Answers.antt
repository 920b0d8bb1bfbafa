-- `warnings::note` meets its contract: nothing is written for no notice. Assumes nothing.
use borrow.Author.Rules.{rules}
use native.Mathlib.Omega.{arith}
use Rattle.report.proofs.Warnings.{none-put}
use Rattle.warnings.proofs.note.Goals as goal

pub returns-in-None : goal.returns-in-None
returns-in-None c = rw c.in-None.is (omega arith, none-put c.args.at c.args.warnings.now)
