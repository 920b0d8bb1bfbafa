-- `settling::column_starts` meets its contract. The invariant: what becomes of the table is what becomes of its rows from i on, from the place as it is.
use mathlib.Core.Logic.{⊎_elim}
use native.Mathlib.Omega.{arith}
use Prim.Native.Nat.{◌+◌, ◌*◌, ◌≤◌}
use lib.ListN.{length}
use Rattle.tables.specs.View.{word}
use Rattle.apart.proofs.Marks.{counted-facts}
use Rattle.layout.specs.Layout.{Column}
use Rattle.order.specs.Order.{column_of}
use Rattle.in_place.proofs.Starts.{starts-start, starts_in, line-fits, starts-line, starts_none, starts-done}
use Rattle.settling.proofs.column_starts.Goals as goal
use Rattle.settling.proofs.column_starts.Lts as lts
use Rattle.settling.proofs.column_starts.Reads as reads
use Rattle.settling.proofs.column_starts.Tie as tie

abbrev AtStart : Type 0
AtStart = lts.Start tie.the-claims reads.Pre reads.Post goal.the-invariant-loop-i goal.the-decreases-loop-i

abbrev AtInLoopI : Type 0
AtInLoopI = lts.In-loop tie.the-claims reads.Pre reads.Post goal.the-invariant-loop-i goal.the-decreases-loop-i

abbrev column : AtStart → Column
column s = column_of s.args.column.stride s.args.column.offset s.args.column.marked

-- in a turn: the row lies in the table
room : (c : AtInLoopI) → 1 + c.loop-i.i * c.args.column.stride + c.args.column.stride ≤ length c.loop-i.t
room c =
    let s = c.before.before.before.before in
    let l = c.loop-i in
    starts_in (column s) s.args.t.now s.args.at (word 0 s.args.t.now) l.i l.t l.place l.invariant.1 c.loop-i-test.true

pub bounds-t-0 : goal.bounds-t-0
bounds-t-0 c = let f = counted-facts 4096 c.args.column.stride c.args.t.now c.requires.1.1.1.0 in omega arith

pub loop-i-init : goal.loop-i-init
loop-i-init c = let a = c.args in (omega arith, starts-start (column_of a.column.stride a.column.offset a.column.marked) 4096 a.t.now a.at c.requires.1.1.1.0)

pub overflow_mul-row : goal.overflow_mul-row
overflow_mul-row c = omega (arith, room c.before, c.loop-i.invariant.1.words, c.well_formed)

pub overflow_add-row : goal.overflow_add-row
overflow_add-row c = omega (arith, room c.before, c.loop-i.invariant.1.words, c.well_formed)

pub has_line-requires : goal.has_line-requires
has_line-requires c = omega (arith, room c.before, c.requires.1.0)

pub overflow_add-k : goal.overflow_add-k
overflow_add-k c = omega (arith, room c.before.before.before.before, c.loop-i.invariant.1.words, c.requires.0, c.well_formed)

pub overflow_add-size : goal.overflow_add-size
overflow_add-size c = omega (arith, room c.before.before.before.before, c.loop-i.invariant.1.words, c.requires.0, c.well_formed)

pub offset_bounds-t-k : goal.offset_bounds-t-k
offset_bounds-t-k c = omega (arith, room c.before.before.before.before, c.loop-i.invariant.1.words, c.requires.0, c.well_formed)

pub bounds-t-k : goal.bounds-t-k
bounds-t-k c = omega (arith, room c.before.before.before.before.before.before, c.loop-i.invariant.1.words, c.requires.0, c.well_formed)

pub offset_bounds-t-k-then-has_line : goal.offset_bounds-t-k-then-has_line
offset_bounds-t-k-then-has_line c = omega (arith, room c.before.before.before.before.before, c.loop-i.invariant.1.words, c.requires.0, c.well_formed)

pub bounds-t-k-then-has_line : goal.bounds-t-k-then-has_line
bounds-t-k-then-has_line c = omega (arith, room c.before.before.before.before.before, c.loop-i.invariant.1.words, c.requires.0, c.well_formed)

pub overflow_add-place : goal.overflow_add-place
overflow_add-place c =
    let s = c in
    let a = s.args in
    let l = c.loop-i in
    let b = c.has_line in
    omega (arith, line-fits a.column.stride a.column.offset a.column.marked a.t.now a.at (word 0 a.t.now) l.i l.t l.place l.invariant.1 c.loop-i-test.true s.requires.0 s.requires.1.0 b.result b.ensures c.if-has_line.true, s.requires.1.1.1.1)

pub loop-i-preserved : goal.loop-i-preserved
loop-i-preserved c =
    let s = c in
    let a = s.args in
    let l = c.loop-i in
    let h = c.loop-i-test.true in
    let b = c.has_line in
    ⊎_elim
    (λ w. (omega (arith, h), starts-line a.column.stride a.column.offset a.column.marked a.t.now a.at (word 0 a.t.now) l.i l.t l.place l.invariant.1 h s.requires.0 s.requires.1.0 b.result b.ensures w.if-has_line.true c.if-has_line.t c.if-has_line.place w.t-is w.place-is))
    (λ w. (omega (arith, h), starts_none a.column.stride a.column.offset a.column.marked a.t.now a.at (word 0 a.t.now) l.i l.t l.place l.invariant.1 h s.requires.0 s.requires.1.0 b.result b.ensures w.if-has_line.false c.if-has_line.t c.if-has_line.place w.t-is w.place-is))
    c.if-has_line.branch-raw

pub shape_of-t : goal.shape_of-t
shape_of-t c = c.loop-i.invariant.1.words

pub returns : goal.returns
returns c =
    let a = c.args in
    let l = c.loop-i in
    starts-done (column c.before.before.before.before) a.t.now a.at (word 0 a.t.now) l.i l.t l.place l.invariant.1 c.loop-i-test.false
