use Rattle.merge_made.proofs.Parts.{three-tables}
use Rattle.merge_made.proofs.write_named.Goals as goal

-- src/lib.rt:86:1
pub returns : goal.returns
returns c = three-tables c.forget.ensures c.forget-2.ensures c.replace.ensures
