use Rattle.split_made.proofs.Parts.{three-lists}
use Rattle.split_made.proofs.write_lists.Goals as goal

pub returns : goal.returns
returns c = three-lists c.list_created.ensures c.list_modified.ensures c.warn.ensures
