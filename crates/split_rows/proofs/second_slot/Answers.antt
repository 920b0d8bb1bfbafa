-- `split_rows::second_slot` meets its contract: a neighbour is written only where it is found among the cut lanes. Assumes nothing.
use borrow.Author.Rules.{rules}
use native.Mathlib.Omega.{arith}
use lib.ListN.{length-set}
use Rattle.split_rows.proofs.Slots.{cut-asks, second_fits, second_empty, second-absent, second-along, second_against}
use Rattle.split_rows.proofs.second_slot.Goals as goal

pub returns-then-way-eq-NONE : goal.returns-then-way-eq-NONE
returns-then-way-eq-NONE c = let a = c.args in second_empty a.row.now a.old.now a.k a.cut.now a.next c.requires.1.0 c.if-way-eq-NONE.true

pub find_row-found-requires : goal.find_row-found-requires
find_row-found-requires c = cut-asks c.args.cut.now c.args.next c.requires.0

pub bounds-row-k-in-Some : goal.bounds-row-k-in-Some
bounds-row-k-in-Some c = simp length-set (omega (arith, c.requires.1.0))

pub bounds-row-k-in-Some-2 : goal.bounds-row-k-in-Some-2
bounds-row-k-in-Some-2 c = simp length-set (omega (arith, c.requires.1.0))

pub overflow_add-row-then-way-eq-SAME : goal.overflow_add-row-then-way-eq-SAME
overflow_add-row-then-way-eq-SAME c = record { fits = second_fits c.args.cut.now c.args.next c.requires.0 _ c.find_row-found.result c.find_row-found.ensures c.in-Some.r c.in-Some.is }

pub bounds-row-k-then-way-eq-SAME : goal.bounds-row-k-then-way-eq-SAME
bounds-row-k-then-way-eq-SAME c = simp length-set (omega (arith, c.requires.1.0))

pub returns-then-way-eq-SAME : goal.returns-then-way-eq-SAME
returns-then-way-eq-SAME c = let a = c.args in second-along a.row.now a.old.now a.k a.cut.now a.next c.requires.1.0 c.requires.1.1.1 c.if-way-eq-NONE.false c.find_row-found.result c.find_row-found.ensures c.in-Some.r c.in-Some.is c.if-way-eq-SAME.true

pub returns-else-way-eq-SAME : goal.returns-else-way-eq-SAME
returns-else-way-eq-SAME c = let a = c.args in second_against a.row.now a.old.now a.k a.cut.now a.next c.requires.1.0 c.requires.1.1.1 c.if-way-eq-NONE.false c.find_row-found.result c.find_row-found.ensures c.in-Some.r c.in-Some.is c.if-way-eq-SAME.false

pub returns-in-None : goal.returns-in-None
returns-in-None c = let a = c.args in second-absent a.row.now a.old.now a.k a.cut.now a.next c.requires.1.0 c.requires.1.1.1 c.if-way-eq-NONE.false c.find_row-found.result c.find_row-found.ensures c.in-None.is
