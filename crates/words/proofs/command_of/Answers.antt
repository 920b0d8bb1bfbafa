use borrow.Author.Rules.{rules}
use Rattle.words.proofs.command_of.Goals as goal

-- src/lib.rt:126:1
pub returns : goal.returns
returns c = cc
