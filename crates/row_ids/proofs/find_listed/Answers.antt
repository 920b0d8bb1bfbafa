-- `row_ids::find_listed` meets its contract. The invariant: where the search still looks. The measure is how many places are left. Assumes nothing.
use Prim.Native.Nat.{◌/◌, ◌≤◌}
use native.Mathlib.Omega.{arith}
use Rattle.row_ids.proofs.Laws.{search-all, turn-less, search-turn, search-found, search-ends}
use Rattle.row_ids.proofs.find_listed.Goals as goal
use Rattle.row_ids.proofs.find_listed.Lts as lts
use Rattle.row_ids.proofs.find_listed.Reads as reads
use Rattle.row_ids.proofs.find_listed.Tie as tie

abbrev AtStart : Type 0
AtStart = lts.Start tie.the-claims reads.Pre reads.Post goal.the-invariant-loop-left goal.the-decreases-loop-left

abbrev AtAfterPastLow : Type 0
AtAfterPastLow = lts.After-past tie.the-claims reads.Pre reads.Post goal.the-invariant-loop-left goal.the-decreases-loop-left

fits : (c : AtStart) → c.args.id ≤ 18446744073709551615
fits c = omega (arith, c.well_formed.1.1.0.1)

less : (c : AtAfterPastLow) → c.past-low.result ≤ c.loop-left.left / 2
less c =
    let b = c in
    let l = c.loop-left in
    turn-less b.args.ids.now b.args.n b.args.id b.requires (fits c.before.before.before.before.before) l.low l.left l.invariant c.loop-left-test.true c.past-low.result c.past-low.ensures

pub loop-left-init : goal.loop-left-init
loop-left-init c = search-all c.args.ids.now c.args.n c.args.id c.requires (fits c.before.before)

pub overflow_add-low-in-loop-left : goal.overflow_add-low-in-loop-left
overflow_add-low-in-loop-left c = omega (arith, c.loop-left.invariant.within, less c.before)

pub loop-left-preserved : goal.loop-left-preserved
loop-left-preserved c =
    let b = c in
    let l = c.loop-left in
    search-turn b.args.ids.now b.args.n b.args.id b.requires (fits c.before.before.before.before.before.before) l.low l.left l.invariant c.loop-left-test.true c.past-low.result c.past-low.ensures

pub returns-then-ids-low : goal.returns-then-ids-low
returns-then-ids-low c =
    let b = c in
    let l = c.loop-left in
    search-found b.args.ids.now b.args.n b.args.id b.requires (fits c.before.before.before.before.before.before.before) l.low c.if-low-n.true c.if-ids-low.true

pub returns-else-ids-low : goal.returns-else-ids-low
returns-else-ids-low c =
    let b = c in
    let l = c.loop-left in
    search-ends b.args.ids.now b.args.n b.args.id b.requires (fits c.before.before.before.before.before.before.before) l.low l.left l.invariant (omega (arith, c.loop-left-test.false)) (λ h e. c.if-ids-low.false e)

pub returns-else-low-n : goal.returns-else-low-n
returns-else-low-n c =
    let b = c in
    let l = c.loop-left in
    search-ends b.args.ids.now b.args.n b.args.id b.requires (fits c.before.before.before.before.before) l.low l.left l.invariant (omega (arith, c.loop-left-test.false)) (λ h e. omega (arith, c.if-low-n.false))
