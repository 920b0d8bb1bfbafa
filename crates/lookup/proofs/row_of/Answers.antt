-- `lookup::row_of` meets its contract: a search in the rows behind the count. Assumes nothing.
use Rattle.lookup.proofs.Laws.{lent_rows, lent-place}
use Rattle.lookup.proofs.row_of.Goals as goal

pub find_row-requires : goal.find_row-requires
find_row-requires c = (c.requires.0, lent_rows c.args.table.now c.args.row c.requires.1.0 c.requires.1.1)

pub returns : goal.returns
returns c = lent-place c.args.table.now c.args.row c.args.id c.find_row.result c.requires.1.0 c.find_row.ensures
