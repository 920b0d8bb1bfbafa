-- `split_rows::first_slot` meets its contract: an opposite neighbour that is found among the cut lanes is the second half. Assumes nothing.
use borrow.Author.Rules.{rules}
use Rattle.split_rows.proofs.Slots.{cut-asks, second_fits, first-kept, first_found, first_absent}
use Rattle.split_rows.proofs.first_slot.Goals as goal

pub returns-then-row-k-ne-OPPOSITE : goal.returns-then-row-k-ne-OPPOSITE
returns-then-row-k-ne-OPPOSITE c = let a = c.args in first-kept a.row.now a.k a.cut.now a.next c.requires.1.0 c.requires.1.1 c.if-row-k-ne-OPPOSITE.true

pub find_row-found-requires : goal.find_row-found-requires
find_row-found-requires c = cut-asks c.args.cut.now c.args.next c.requires.0

pub overflow_add-row : goal.overflow_add-row
overflow_add-row c = record { fits = second_fits c.args.cut.now c.args.next c.requires.0 _ c.find_row-found.result c.find_row-found.ensures c.in-Some.r c.in-Some.is }

pub returns-in-Some : goal.returns-in-Some
returns-in-Some c = let a = c.args in first_found a.row.now a.k a.cut.now a.next c.requires.1.0 c.if-row-k-ne-OPPOSITE.false c.find_row-found.result c.find_row-found.ensures c.in-Some.r c.in-Some.is

pub returns-in-None : goal.returns-in-None
returns-in-None c = let a = c.args in first_absent a.row.now a.k a.cut.now a.next c.requires.1.0 c.if-row-k-ne-OPPOSITE.false c.find_row-found.result c.find_row-found.ensures c.in-None.is
