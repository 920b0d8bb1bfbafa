-- `merge_rows::point_side` meets its contract: a boundary that is joined in place points to its line, and any other side leaves the table. Assumes nothing.
use borrow.Author.Rules.{rules}
use Rattle.merge_rows.proofs.point_side.Goals as goal

pub returns-in-InPlace : goal.returns-in-InPlace
returns-in-InPlace c = rw c.in-InPlace.is c.point_boundary.ensures
