-- `merge_rows::add_side` meets its contract: a new boundary is written behind the last row, and any other side leaves the table. Assumes nothing.
use borrow.Author.Rules.{rules}
use Rattle.merge_rows.proofs.add_side.Goals as goal

pub add_boundary-requires : goal.add_boundary-requires
add_boundary-requires c = rw c.in-Fresh.is at c.requires

pub returns-in-Fresh : goal.returns-in-Fresh
returns-in-Fresh c = rw c.in-Fresh.is c.add_boundary.ensures
