-- `map::sound::lane_good` meets its contract. A formed row's lists have at most 16 ids, so they lie in the row; the parts lent are the lists. Assumes nothing.
use mathlib.Core.Path.{◌≡◌, ◌∙◌}
use mathlib.Core.Bool.{true, ◌&&◌}
use Prim.Native.Nat.{◌+◌, ◌-◌}
use native.Mathlib.Omega.{arith}
use lib.ListN.{get_or}
use borrow.Author.Tests.{eq-eqb, ne_eqb}
use Rattle.lists.proofs.Booleans.{and-fst}
use Rattle.tables.specs.View.{ids_at}
use Rattle.tables.specs.Formed.{lane_formed}
use Rattle.row_tests.specs.Good.{lane_good, links_good, lane_numbers}
use Rattle.row_tests.proofs.Formed.{lane-before, lane-after}
use Rattle.entity_tests.proofs.lane_good.Goals as goal
use Rattle.entity_tests.proofs.lane_good.Lts as lts
use Rattle.entity_tests.proofs.lane_good.Reads as reads
use Rattle.entity_tests.proofs.lane_good.Tie as tie

abbrev AtAfterBoth : Type 0
AtAfterBoth = lts.After-both tie.the-claims reads.Pre reads.Post

abbrev AtThenBoth : Type 0
AtThenBoth = lts.Then1 tie.the-claims reads.Pre reads.Post

abbrev AtAfterBothThenBoth : Type 0
AtAfterBothThenBoth = lts.After-both2 tie.the-claims reads.Pre reads.Post

-- the tests of the row's form and numbers, and of both lists of links
numbers : (c : AtAfterBoth) → (lane_formed c.args.w.now && lane_numbers c.args.most c.args.w.now) ≡ c.both.result
numbers c = rw (c.both.ensures, c.lane_formed.ensures, c.lane_numbers.ensures)

formed : (c : AtThenBoth) → lane_formed c.args.w.now ≡ true
formed c =
    let a = c.args in
    and-fst (lane_formed a.w.now) (lane_numbers a.most a.w.now) (numbers c.before ∙ c.if-both.true)

links : (c : AtAfterBothThenBoth) → (links_good c.args.most (ids_at 18 c.args.w.now) && links_good c.args.most (ids_at 35 c.args.w.now)) ≡ c.both-then-both.result
links c =
    let w = c.args.w.now in
    let e : 19 + get_or w 18 0 - 19 ≡ get_or w 18 0 = omega arith in
    let f : 36 + get_or w 35 0 - 36 ≡ get_or w 35 0 = omega arith in
    rw (c.both-then-both.ensures, c.links_good.ensures, c.links_good-then-both.ensures, e, f)

pub overflow_add-before : goal.overflow_add-before
overflow_add-before c = omega (arith, lane-before c.args.w.now (formed c.before.before))

pub overflow_add-after : goal.overflow_add-after
overflow_add-after c = omega (arith, lane-after c.args.w.now (formed c.before.before.before))

pub slice_bounds-links_good-end : goal.slice_bounds-links_good-end
slice_bounds-links_good-end c = omega (arith, lane-before c.args.w.now (formed c.before.before.before))

pub slice_bounds-links_good-end-then-both : goal.slice_bounds-links_good-end-then-both
slice_bounds-links_good-end-then-both c = omega (arith, lane-after c.args.w.now (formed c.before.before.before.before.before))

pub returns-then-w-eq0 : goal.returns-then-w-eq0
unfolding lane_good
returns-then-w-eq0 c =
    let w = c.args.w.now in
    rw (numbers c.before.before.before.before.before.before.before.before.before.before.before.before, c.if-both.true, links c.before.before.before.before, c.if-both-2.true, eq-eqb (get_or w 6 0) 0 c.if-w-eq0.true)

pub returns-then-both-2 : goal.returns-then-both-2
unfolding lane_good
returns-then-both-2 c =
    let w = c.args.w.now in
    rw (numbers c.before.before.before.before.before.before.before.before.before.before.before.before.before.before.before, c.if-both.true, links c.before.before.before.before.before.before.before, c.if-both-2.true, ne_eqb (get_or w 6 0) 0 c.if-w-eq0.false, c.line_good.ensures)

pub returns-else-both-2 : goal.returns-else-both-2
unfolding lane_good
returns-else-both-2 c = rw (numbers c.before.before.before.before.before.before.before.before.before.before, c.if-both.true, links c.before.before, c.if-both-2.false)

pub returns-else-both : goal.returns-else-both
unfolding lane_good
returns-else-both c = rw (numbers c.before.before, c.if-both.false)
