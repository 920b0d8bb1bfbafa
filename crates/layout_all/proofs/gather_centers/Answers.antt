-- `layout_all::gather_centers` meets its contract. The invariant: what becomes of the centrelines is what becomes of those from lane i on, from the place as it is.
use native.Mathlib.Omega.{arith}
use Prim.Native.Nat.{◌+◌, ◌*◌}
use Rattle.tables.specs.View.{word}
use Rattle.apart.proofs.Marks.{counted-facts}
use Rattle.layout.specs.Layout.{sourced, centerlines}
use Rattle.layout.proofs.Column.{RowReady, left-start, left-row, left-turn, left-done}
use Rattle.layout_all.proofs.gather_centers.Goals as goal
use Rattle.layout_all.proofs.gather_centers.Lts as lts
use Rattle.layout_all.proofs.gather_centers.Reads as reads
use Rattle.layout_all.proofs.gather_centers.Tie as tie

abbrev AtInLoopI : Type 0
AtInLoopI = lts.In-loop tie.the-claims reads.Pre reads.Post goal.the-invariant-loop-i goal.the-decreases-loop-i

-- in a turn: what the next lane's centreline asks for
needed : (c : AtInLoopI) → RowReady centerlines (sourced c.args.reach c.args.work.now c.args.drawn.now) c.loop-i.lanes c.loop-i.coordinates c.loop-i.place (1 + c.loop-i.i * 52)
needed c =
    let a = c.args in
    left-row centerlines (sourced a.reach a.work.now a.drawn.now) a.lanes.now a.coordinates.now a.at (word 0 a.lanes.now) c.loop-i.i c.loop-i.lanes c.loop-i.coordinates c.loop-i.place c.loop-i.invariant.1 c.loop-i-test.true

pub bounds-lanes-0 : goal.bounds-lanes-0
bounds-lanes-0 c = let f = counted-facts 1024 52 c.args.lanes.now c.requires.1.0 in omega arith

pub loop-i-init : goal.loop-i-init
loop-i-init c =
    let a = c.args in
    (omega arith, left-start centerlines 1024 (sourced a.reach a.work.now a.drawn.now) a.lanes.now a.coordinates.now a.at c.requires.1.0 c.requires.1.1.0 c.requires.1.1.1)

pub overflow_mul-i : goal.overflow_mul-i
overflow_mul-i c = omega (arith, (needed c.before.before).0, c.loop-i.invariant.1.words, c.well_formed)

pub gather_center-place-requires : goal.gather_center-place-requires
gather_center-place-requires c = (c.requires.0, needed c.before.before.before)

pub loop-i-preserved : goal.loop-i-preserved
loop-i-preserved c =
    let a = c.args in
    let g = c.gather_center-place in
    (omega (arith, c.loop-i-test.true), left-turn centerlines (sourced a.reach a.work.now a.drawn.now) a.lanes.now a.coordinates.now a.at (word 0 a.lanes.now) c.loop-i.i c.loop-i.lanes c.loop-i.coordinates c.loop-i.place c.loop-i.invariant.1 c.loop-i-test.true g.new.lanes g.new.coordinates g.result g.ensures)

pub shape_of-lanes : goal.shape_of-lanes
shape_of-lanes c = c.loop-i.invariant.1.words

pub shape_of-coordinates : goal.shape_of-coordinates
shape_of-coordinates c = c.loop-i.invariant.1.floats

pub returns : goal.returns
returns c =
    let a = c.args in
    left-done centerlines (sourced a.reach a.work.now a.drawn.now) a.lanes.now a.coordinates.now a.at (word 0 a.lanes.now) c.loop-i.i c.loop-i.lanes c.loop-i.coordinates c.loop-i.place c.loop-i.invariant.1 c.loop-i-test.false
