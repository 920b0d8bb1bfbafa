-- `reach::centers_reach` meets its contract. The invariant: the whole reach is that of the lanes from i on, or the place as it is.
use native.Mathlib.Omega.{arith}
use Prim.Native.Nat.{◌+◌, ◌*◌, ◌≤◌}
use lib.ListN.{length}
use Rattle.tables.specs.View.{word}
use Rattle.apart.proofs.Marks.{counted-facts, row_in}
use Rattle.layout.specs.Layout.{centerlines}
use Rattle.layout.proofs.Reach.{far-start, far-fits, far-turn, far-done}
use Rattle.reach.proofs.centers_reach.Goals as goal
use Rattle.reach.proofs.centers_reach.Lts as lts
use Rattle.reach.proofs.centers_reach.Reads as reads
use Rattle.reach.proofs.centers_reach.Tie as tie

abbrev AtInLoopI : Type 0
AtInLoopI = lts.In-loop tie.the-claims reads.Pre reads.Post goal.the-invariant-loop-i goal.the-decreases-loop-i

-- in a turn: the lane's row lies in the table
room : (c : AtInLoopI) → 1 + c.loop-i.i * 52 + 52 ≤ length c.args.lanes.now
room c =
    let s = c in
    row_in 1024 52 c.loop-i.i s.args.lanes.now s.requires.0 c.loop-i-test.true

pub bounds-lanes-0 : goal.bounds-lanes-0
bounds-lanes-0 c = let f = counted-facts 1024 52 c.args.lanes.now c.requires.0 in omega arith

pub loop-i-init : goal.loop-i-init
loop-i-init c = let a = c.args in (omega arith, far-start centerlines a.lanes.now a.most c.requires.1)

pub overflow_mul-i : goal.overflow_mul-i
overflow_mul-i c = omega (arith, room c.before, c.well_formed)

pub center_reach-far-requires : goal.center_reach-far-requires
center_reach-far-requires c =
    let a = c.args in
    let l = c.loop-i in
    (room c.before, far-fits centerlines a.lanes.now a.most (word 0 a.lanes.now) l.i l.far l.invariant.1 c.loop-i-test.true)

pub loop-i-preserved : goal.loop-i-preserved
loop-i-preserved c =
    let a = c.args in
    let l = c.loop-i in
    let g = c.center_reach-far in
    (omega (arith, c.loop-i-test.true), far-turn centerlines a.lanes.now a.most (word 0 a.lanes.now) l.i l.far l.invariant.1 c.loop-i-test.true g.result g.ensures)

pub returns : goal.returns
returns c =
    let a = c.args in
    let l = c.loop-i in
    far-done centerlines a.lanes.now a.most (word 0 a.lanes.now) l.i l.far l.invariant.1 c.loop-i-test.false
