-- `reach::column_reach` meets its contract. The invariant: the whole reach is that of the rows from i on, or the place as it is.
use mathlib.Core.Path.{refl}
use native.Mathlib.Omega.{arith}
use Prim.Native.Nat.{◌+◌, ◌*◌, ◌≤◌}
use lib.ListN.{length}
use Rattle.tables.specs.View.{word}
use Rattle.apart.proofs.Marks.{counted-facts, row_in}
use Rattle.layout.specs.Layout.{plain}
use Rattle.layout.proofs.Reach.{far-start, far-fits, far-turn, far-done, row-within-n, row-reach}
use Rattle.reach.proofs.column_reach.Goals as goal
use Rattle.reach.proofs.column_reach.Lts as lts
use Rattle.reach.proofs.column_reach.Reads as reads
use Rattle.reach.proofs.column_reach.Tie as tie

abbrev AtInLoopI : Type 0
AtInLoopI = lts.In-loop tie.the-claims reads.Pre reads.Post goal.the-invariant-loop-i goal.the-decreases-loop-i

-- in a turn: the row lies in the table
room : (c : AtInLoopI) → 1 + c.loop-i.i * c.args.stride + c.args.stride ≤ length c.args.t.now
room c =
    let s = c in
    row_in 4096 s.args.stride c.loop-i.i s.args.t.now s.requires.1.1.0 c.loop-i-test.true

pub bounds-t-0 : goal.bounds-t-0
bounds-t-0 c = let f = counted-facts 4096 c.args.stride c.args.t.now c.requires.1.1.0 in omega arith

pub loop-i-init : goal.loop-i-init
loop-i-init c = let a = c.args in (omega arith, far-start (plain a.stride a.offset) a.t.now a.most c.requires.1.1.1)

pub overflow_mul-at : goal.overflow_mul-at
overflow_mul-at c = omega (arith, room c.before, c.well_formed)

pub overflow_add-at : goal.overflow_add-at
overflow_add-at c = omega (arith, room c.before, c.well_formed)

pub overflow_add-at-in-loop-i : goal.overflow_add-at-in-loop-i
overflow_add-at-in-loop-i c = omega (arith, room c.before, c.well_formed)

pub offset_bounds-t-at : goal.offset_bounds-t-at
offset_bounds-t-at c = omega (arith, room c.before, c.well_formed)

pub bounds-t-at : goal.bounds-t-at
bounds-t-at c = omega (arith, room c.before.before, c.well_formed)

pub overflow_add-at-in-loop-i-2 : goal.overflow_add-at-in-loop-i-2
overflow_add-at-in-loop-i-2 c = omega (arith, room c.before.before, c.well_formed)

pub offset_bounds-t-at-in-loop-i : goal.offset_bounds-t-at-in-loop-i
offset_bounds-t-at-in-loop-i c = omega (arith, room c.before.before, c.well_formed)

pub bounds-t-at-in-loop-i : goal.bounds-t-at-in-loop-i
bounds-t-at-in-loop-i c = omega (arith, room c.before.before.before, c.well_formed)

pub line_reach-far-requires : goal.line_reach-far-requires
line_reach-far-requires c =
    let a = c.args in
    let l = c.loop-i in
    let k = plain a.stride a.offset in
    row-within-n k a.t.now (1 + l.i * a.stride) c.requires.0 (room c.before.before.before) refl 65536 (far-fits k a.t.now a.most (word 0 a.t.now) l.i l.far l.invariant.1 c.loop-i-test.true)

pub loop-i-preserved : goal.loop-i-preserved
loop-i-preserved c =
    let a = c.args in
    let l = c.loop-i in
    let k = plain a.stride a.offset in
    let g = c.line_reach-far in
    (omega (arith, c.loop-i-test.true), far-turn k a.t.now a.most (word 0 a.t.now) l.i l.far l.invariant.1 c.loop-i-test.true g.result (row-reach k a.t.now (1 + l.i * a.stride) c.requires.0 (room c.before.before.before.before) refl l.far g.result g.ensures))

pub returns : goal.returns
returns c =
    let a = c.args in
    let l = c.loop-i in
    far-done (plain a.stride a.offset) a.t.now a.most (word 0 a.t.now) l.i l.far l.invariant.1 c.loop-i-test.false
