use Rattle.merge_made.proofs.Parts.{four-lists}
use Rattle.merge_made.proofs.write_lists.Goals as goal

pub returns-clause-made : goal.returns-clause-made
returns-clause-made c = four-lists c.list_created.ensures c.list_modified.ensures c.list_deleted.ensures c.warn.ensures
