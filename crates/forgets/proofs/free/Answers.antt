-- `naming::free` meets its contract: one store, or none. Assumes nothing.
use borrow.Author.Rules.{rules}
use Rattle.mentions.proofs.Going.{freed, not-freed}
use Rattle.forgets.proofs.free.Goals as goal

pub returns-then-slot_names : goal.returns-then-slot_names
returns-then-slot_names c =
    let a = c.args in
    let b = c.slot_names in
    freed a.row.now a.k a.id c.requires b.result b.ensures c.if-slot_names.true

pub returns-else-slot_names : goal.returns-else-slot_names
returns-else-slot_names c =
    let a = c.args in
    let b = c.slot_names in
    not-freed a.row.now a.k a.id c.requires b.result b.ensures c.if-slot_names.false
