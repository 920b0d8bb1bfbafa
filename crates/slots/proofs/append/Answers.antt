-- `slots::append` meets its contract. Assumes nothing.
use Rattle.lists.proofs.Rows.{store-end}
use Rattle.slots.proofs.append.Goals as goal

pub returns : goal.returns
returns c =
    let a = c.args in
    store-end a.slots.now a.n a.id c.requires
