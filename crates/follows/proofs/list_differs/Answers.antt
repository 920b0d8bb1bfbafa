-- `follows::list_differs` meets its contract: some are counted where one is named. Assumes nothing.
use Rattle.lists.specs.Select.{has}
use Rattle.tables.specs.View.{word}
use Rattle.follows.proofs.Differs.{counted-any}
use borrow.Author.Rules.{rules}
use Rattle.follows.proofs.list_differs.Goals as goal

pub returns : goal.returns
returns c =
    let a = c.args in
    let p = c.requires in
    counted-any (λ i. has i a.cut.now) a.row.now a.k (word a.k a.row.now) c.count_cut.result p.1.0 c.count_cut.ensures
