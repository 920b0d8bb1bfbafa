-- `lane_lists::count_named` meets its contract: four counts, of at most 1024 each. Assumes nothing.
use borrow.Author.Rules.{rules}
use Prim.Native.Nat.{◌+◌, ◌≤◌}
use native.Mathlib.Omega.{arith}
use Rattle.lane_lists.proofs.Listed.{counts-small, counts_all}
use Rattle.lane_lists.proofs.count_named.Goals as goal
use Rattle.lane_lists.proofs.count_named.Lts as lts
use Rattle.lane_lists.proofs.count_named.Reads as reads
use Rattle.lane_lists.proofs.count_named.Tie as tie

abbrev AtAfterCountD : Type 0
AtAfterCountD = lts.After-count4 tie.the-claims reads.Pre reads.Post

-- the sum is small
small : (c : AtAfterCountD) → c.count-a.result + c.count-b.result + c.count-c.result + c.count-d.result ≤ 4096
small c =
    let a = c.args in
    counts-small a.lane a.lanes.now a.roads.now a.junctions.now a.rules.now c.requires c.count-a.result c.count-b.result c.count-c.result c.count-d.result c.count-a.ensures c.count-b.ensures c.count-c.ensures c.count-d.ensures

pub overflow_add-result : goal.overflow_add-result
overflow_add-result c = omega (arith, small c.before)

pub overflow_add-result-2 : goal.overflow_add-result-2
overflow_add-result-2 c = omega (arith, small c.before)

pub overflow_add-result-3 : goal.overflow_add-result-3
overflow_add-result-3 c = omega (arith, small c.before)

pub returns : goal.returns
returns c =
    let a = c.args in
    counts_all a.lane a.lanes.now a.roads.now a.junctions.now a.rules.now c.requires c.count-a.result c.count-b.result c.count-c.result c.count-d.result c.count-a.ensures c.count-b.ensures c.count-c.ensures c.count-d.ensures
