-- `layout_all::gather` meets its contract. The invariant: what becomes of the column is what becomes of the rows from i on, from the place as it is.
use mathlib.Core.Path.{refl}
use native.Mathlib.Omega.{arith}
use Prim.Native.Nat.{◌+◌, ◌*◌}
use Rattle.tables.specs.View.{word}
use Rattle.apart.proofs.Marks.{counted-facts}
use Rattle.layout.specs.Layout.{sourced, plain}
use Rattle.layout.proofs.Column.{Ready, left-start, line-needs, left-line, left-done}
use Rattle.layout_all.proofs.gather.Goals as goal
use Rattle.layout_all.proofs.gather.Lts as lts
use Rattle.layout_all.proofs.gather.Reads as reads
use Rattle.layout_all.proofs.gather.Tie as tie

abbrev AtInLoopI : Type 0
AtInLoopI = lts.In-loop tie.the-claims reads.Pre reads.Post goal.the-invariant-loop-i goal.the-decreases-loop-i

-- in a turn: what the next row's line asks for
needed : (c : AtInLoopI) → Ready (sourced c.args.reach c.args.work.now c.args.drawn.now) c.loop-i.rows c.loop-i.coordinates c.loop-i.place
    (1 + c.loop-i.i * c.args.column.stride + c.args.column.offset)
needed c =
    let s = c in
    let a = s.args in
    line-needs (plain a.column.stride a.column.offset) (sourced a.reach a.work.now a.drawn.now) a.rows.now a.coordinates.now a.at (word 0 a.rows.now) c.loop-i.i c.loop-i.rows c.loop-i.coordinates c.loop-i.place c.loop-i.invariant.1 c.loop-i-test.true s.requires.1.0 refl

pub bounds-rows-0 : goal.bounds-rows-0
bounds-rows-0 c = let f = counted-facts 4096 c.args.column.stride c.args.rows.now c.requires.1.1.1.0 in omega arith

pub loop-i-init : goal.loop-i-init
loop-i-init c =
    let a = c.args in
    (omega arith, left-start (plain a.column.stride a.column.offset) 4096 (sourced a.reach a.work.now a.drawn.now) a.rows.now a.coordinates.now a.at c.requires.1.1.1.0 c.requires.1.1.1.1.0 c.requires.1.1.1.1.1)

pub overflow_mul-i : goal.overflow_mul-i
overflow_mul-i c = omega (arith, (needed c.before.before.before).0, c.loop-i.invariant.1.words, c.well_formed)

pub overflow_add-i-in-loop-i : goal.overflow_add-i-in-loop-i
overflow_add-i-in-loop-i c = omega (arith, (needed c.before.before.before.before).0, c.loop-i.invariant.1.words, c.well_formed)

pub gather_line-place-requires : goal.gather_line-place-requires
gather_line-place-requires c = (c.requires.0, needed c.before.before.before.before.before)

pub loop-i-preserved : goal.loop-i-preserved
loop-i-preserved c =
    let a = c.args in
    let g = c.gather_line-place in
    (omega (arith, c.loop-i-test.true), left-line (plain a.column.stride a.column.offset) (sourced a.reach a.work.now a.drawn.now) a.rows.now a.coordinates.now a.at (word 0 a.rows.now) c.loop-i.i c.loop-i.rows c.loop-i.coordinates c.loop-i.place c.loop-i.invariant.1 c.loop-i-test.true c.requires.1.0 refl g.new.rows g.new.coordinates g.result g.ensures.0 g.ensures.1.0 g.ensures.1.1)

pub shape_of-rows : goal.shape_of-rows
shape_of-rows c = c.loop-i.invariant.1.words

pub shape_of-coordinates : goal.shape_of-coordinates
shape_of-coordinates c = c.loop-i.invariant.1.floats

pub returns : goal.returns
returns c =
    let a = c.args in
    left-done (plain a.column.stride a.column.offset) (sourced a.reach a.work.now a.drawn.now) a.rows.now a.coordinates.now a.at (word 0 a.rows.now) c.loop-i.i c.loop-i.rows c.loop-i.coordinates c.loop-i.place c.loop-i.invariant.1 c.loop-i-test.false
