-- `map::sound::rule_lists` meets its contract. A formed row's lists lie in the row where its kind has them. Assumes nothing.
use mathlib.Core.Path.{◌≡◌}
use mathlib.Core.Bool.{◌&&◌}
use native.Mathlib.Omega.{arith}
use lib.ListN.{get_or}
use borrow.Author.Tests.{eq-eqb, ne_eqb}
use Rattle.tables.specs.View.{ids_at}
use Rattle.row_tests.specs.Good.{rule_lists, ids_good, lanes_good}
use Rattle.row_tests.proofs.Formed.{rule-lanes, rule-crosswalks, rule-stops, rule-priority, rule-yielding}
use Rattle.entity_tests.proofs.rule_lists.Goals as goal
use Rattle.entity_tests.proofs.rule_lists.Lts as lts
use Rattle.entity_tests.proofs.rule_lists.Reads as reads
use Rattle.entity_tests.proofs.rule_lists.Tie as tie

abbrev AtAfterBoth : Type 0
AtAfterBoth = lts.After-both tie.the-claims reads.Pre reads.Post

-- the lists that every kind has
own : (c : AtAfterBoth) → (lanes_good c.args.once c.args.most (ids_at 5 c.args.w.now) && ids_good c.args.most (ids_at 70 c.args.w.now)) ≡ c.both.result
own c = rw (c.both.ensures, c.lanes_good.ensures, c.list_good.ensures)

pub lanes_good-requires : goal.lanes_good-requires
lanes_good-requires c = (c.requires.0, (omega arith, rule-lanes c.args.w.now c.requires.1))

pub list_good-requires : goal.list_good-requires
list_good-requires c = (c.requires.0, (omega arith, rule-crosswalks c.args.w.now c.requires.1))

pub returns-then-w-eq-OTHER : goal.returns-then-w-eq-OTHER
unfolding rule_lists
returns-then-w-eq-OTHER c =
    let k = get_or c.args.w.now 1 0 in
    rw (own c.before.before.before.before, c.if-both.true, eq-eqb k 5 c.if-w-eq-OTHER.true, ne_eqb k 3 (λ e. omega arith))

pub list_good-requires-then-both : goal.list_good-requires-then-both
list_good-requires-then-both c = (c.requires.0, (omega arith, rule-stops c.args.w.now c.requires.1 c.if-w-eq-OTHER.false))

pub lanes_good-requires-then-w-eq-RIGHT_OF_WAY : goal.lanes_good-requires-then-w-eq-RIGHT_OF_WAY
lanes_good-requires-then-w-eq-RIGHT_OF_WAY c = (c.requires.0, (omega arith, rule-priority c.args.w.now c.requires.1 c.if-w-eq-RIGHT_OF_WAY.true))

pub lanes_good-requires-then-w-eq-RIGHT_OF_WAY-2 : goal.lanes_good-requires-then-w-eq-RIGHT_OF_WAY-2
lanes_good-requires-then-w-eq-RIGHT_OF_WAY-2 c = (c.requires.0, (omega arith, rule-yielding c.args.w.now c.requires.1 c.if-w-eq-RIGHT_OF_WAY.true))

pub returns-then-w-eq-RIGHT_OF_WAY : goal.returns-then-w-eq-RIGHT_OF_WAY
unfolding rule_lists
returns-then-w-eq-RIGHT_OF_WAY c =
    let k = get_or c.args.w.now 1 0 in
    rw (own c.before.before.before.before.before.before.before.before.before.before.before, c.if-both.true, ne_eqb k 5 c.if-w-eq-OTHER.false, ← c.list_good-then-both.ensures, c.if-list_good.true, eq-eqb k 3 c.if-w-eq-RIGHT_OF_WAY.true, c.both-then-w-eq-RIGHT_OF_WAY.ensures, c.lanes_good-then-w-eq-RIGHT_OF_WAY.ensures, c.lanes_good-then-w-eq-RIGHT_OF_WAY-2.ensures)

pub returns-then-list_good : goal.returns-then-list_good
unfolding rule_lists
returns-then-list_good c =
    let k = get_or c.args.w.now 1 0 in
    rw (own c.before.before.before.before.before.before.before.before, c.if-both.true, ne_eqb k 5 c.if-w-eq-OTHER.false, ← c.list_good-then-both.ensures, c.if-list_good.true, ne_eqb k 3 c.if-w-eq-RIGHT_OF_WAY.false)

pub returns-else-list_good : goal.returns-else-list_good
unfolding rule_lists
returns-else-list_good c =
    let k = get_or c.args.w.now 1 0 in
    rw (own c.before.before.before.before.before.before, c.if-both.true, ne_eqb k 5 c.if-w-eq-OTHER.false, ← c.list_good-then-both.ensures, c.if-list_good.false)

pub returns-else-both : goal.returns-else-both
unfolding rule_lists
returns-else-both c = rw (own c.before.before, c.if-both.false)
