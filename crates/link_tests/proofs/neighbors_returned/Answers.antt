-- `link_tests::neighbors_returned` meets its contract. The invariant: every row passes where those from i on do. Assumes nothing.
use mathlib.Core.Bool.{not}
use borrow.Author.Tests.{not-true, not-false}
use mathlib.Core.Path.{◌≡◌, refl, ap}
use mathlib.Core.Logic.{inl, inr}
use native.Mathlib.Omega.{arith}
use Rattle.row_tests.specs.Good.{all_rows}
use Rattle.row_tests.specs.Returned.{slots_returned}
use Rattle.row_tests.proofs.Tables.{row_of, pass-begins, pass-goes-on, pass-stops, pass-ends}
use Rattle.row_tests.proofs.Lanes.{lanes-some, lane_row}
use Rattle.link_tests.proofs.neighbors_returned.Goals as goal
use Rattle.link_tests.proofs.neighbors_returned.Lts as lts
use Rattle.link_tests.proofs.neighbors_returned.Reads as reads
use Rattle.link_tests.proofs.neighbors_returned.Tie as tie

abbrev AtAfterBoth : Type 0
AtAfterBoth = lts.After-both tie.the-claims reads.Pre reads.Post goal.the-invariant-loop-i goal.the-decreases-loop-i

-- what the calls say, of the row as a pass reads it
tested : (c : AtAfterBoth)
    → let t = c.args.t.now in
    c.both.result ≡ slots_returned t (row_of 52 t c.loop-i.i)
unfolding slots_returned
tested c = rw (lane_row c.args.t.now c.loop-i.i, c.both.ensures, c.slot_returned.ensures, c.slot_returned-in-loop-i.ensures)

pub bounds-t-0 : goal.bounds-t-0
bounds-t-0 c = omega (arith, lanes-some c.args.t.now c.requires.sorted)

pub loop-i-init : goal.loop-i-init
loop-i-init c = let t = c.args.t.now in (omega arith, pass-begins 52 (slots_returned t) t)

pub slot_returned-requires : goal.slot_returned-requires
slot_returned-requires c = (c.requires, (inl refl, c.loop-i-test.true))

pub slot_returned-requires-in-loop-i : goal.slot_returned-requires-in-loop-i
slot_returned-requires-in-loop-i c = (c.requires, (inr refl, c.loop-i-test.true))

pub loop-i-preserved : goal.loop-i-preserved
loop-i-preserved c = let t = c.args.t.now in (omega arith, pass-goes-on 52 (slots_returned t) t c.loop-i.i c.loop-i.invariant.1 c.both.result c.loop-i-test.true (tested c.before.before) (not-false c.both.result (ap not c.if-not-both.false)))

pub returns-then-not-both : goal.returns-then-not-both
unfolding all_rows
returns-then-not-both c = let t = c.args.t.now in pass-stops 52 (slots_returned t) t c.loop-i.i c.loop-i.invariant.1 c.both.result c.loop-i-test.true (tested c.before.before) (not-true c.both.result (ap not c.if-not-both.true))

pub returns : goal.returns
unfolding all_rows
returns c = let t = c.args.t.now in pass-ends 52 (slots_returned t) t c.loop-i.i c.loop-i.invariant.1 c.loop-i-test.false
