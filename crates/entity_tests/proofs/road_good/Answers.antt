-- `map::sound::road_good` meets its contract. The list is read where its count is at most 64, so it lies in the row. Assumes nothing.
use mathlib.Core.Path.{◌≡◌, sym, ◌∙◌}
use Prim.Native.Nat.{◌+◌, ◌-◌, ◌≤◌}
use native.Mathlib.Omega.{arith}
use lib.Dec.{leb}
use lib.ListN.{get_or}
use borrow.Author.Tests.{leb-true}
use Rattle.lists.proofs.Booleans.{and-snd}
use Rattle.row_tests.specs.Good.{road_good}
use Rattle.entity_tests.proofs.road_good.Goals as goal
use Rattle.entity_tests.proofs.road_good.Lts as lts
use Rattle.entity_tests.proofs.road_good.Reads as reads
use Rattle.entity_tests.proofs.road_good.Tie as tie

abbrev AtThenBoth : Type 0
AtThenBoth = lts.Then1 tie.the-claims reads.Pre reads.Post

-- a row that passed so far has at most 64 lanes
few : (c : AtThenBoth) → get_or c.args.w.now 3 0 ≤ 64
few c =
    let w = c.args.w.now in
    leb-true (get_or w 3 0) 64 (and-snd c.both-2.result (leb (get_or w 3 0) 64) (sym c.both-3.ensures ∙ c.if-both.true))

pub overflow_add-end : goal.overflow_add-end
overflow_add-end c = omega (arith, few c.before.before)

pub returns-then-both : goal.returns-then-both
unfolding road_good
returns-then-both c =
    let w = c.args.w.now in
    let e : 4 + get_or w 3 0 - 4 ≡ get_or w 3 0 = omega arith in
    rw (← c.handle.ensures, ← c.handle-2.ensures, ← c.both.ensures, ← c.both-2.ensures, ← c.both-3.ensures, c.if-both.true, c.lanes_good.ensures, e)

pub returns : goal.returns
unfolding road_good
returns c = rw (← c.handle.ensures, ← c.handle-2.ensures, ← c.both.ensures, ← c.both-2.ensures, ← c.both-3.ensures, c.if-both.false)
