-- `settling::column_down` meets its contract. The invariant: what becomes of the column's lines is what becomes of those of the rows from i on, from the place as it is.
use mathlib.Core.Path.{◌≡◌, ap, ◌∙◌}
use mathlib.Core.Bool.{true}
use mathlib.Core.Logic.{⊎_elim}
use mathlib.Core.List.{List, ◌∷◌}
use native.Mathlib.Omega.{arith}
use Prim.Native.Nat.{ℕ, ◌+◌, ◌*◌, ◌≤◌}
use lib.ListN.{length}
use Rattle.lists.specs.Every.{all}
use Rattle.lists.proofs.Every.{all_head}
use Rattle.tables.specs.View.{word}
use Rattle.tables.specs.Formed.{Span}
use Rattle.apart.proofs.Marks.{counted-facts, row_in}
use Rattle.layout.specs.Layout.{Column}
use Rattle.order.specs.Order.{column_of}
use Rattle.order.proofs.Walk.{lines_from, line_here, from_start, all_from, from-with, from-without}
use Rattle.in_place.specs.Settle.{lies}
use Rattle.in_place.proofs.Walks.{down-start, down-room, down-with, down-without, down-done}
use Rattle.settling.proofs.column_down.Goals as goal
use Rattle.settling.proofs.column_down.Lts as lts
use Rattle.settling.proofs.column_down.Reads as reads
use Rattle.settling.proofs.column_down.Tie as tie

abbrev AtStart : Type 0
AtStart = lts.Start tie.the-claims reads.Pre reads.Post goal.the-invariant-loop-i goal.the-decreases-loop-i

abbrev AtInLoopI : Type 0
AtInLoopI = lts.In-loop tie.the-claims reads.Pre reads.Post goal.the-invariant-loop-i goal.the-decreases-loop-i

abbrev AtAtLoopI : Type 0
AtAtLoopI = lts.At-loop tie.the-claims reads.Pre reads.Post goal.the-invariant-loop-i goal.the-decreases-loop-i

abbrev AtAfterHasLine : Type 0
AtAfterHasLine = lts.After-has_line tie.the-claims reads.Pre reads.Post goal.the-invariant-loop-i goal.the-decreases-loop-i

abbrev column : AtStart → Column
column s = column_of s.args.column.stride s.args.column.offset s.args.column.marked

-- in a turn: the row lies in the table, and its line is the next one
room : (c : AtInLoopI) → 1 + c.loop-i.i * c.args.column.stride + c.args.column.stride ≤ length c.args.t.now
room c =
    let s = c.before.before.before.before.before in
    row_in 4096 s.args.column.stride c.loop-i.i s.args.t.now s.requires.0.counts c.loop-i-test.true

abbrev lines : (c : AtAtLoopI) → ℕ → List Span
lines c i = lines_from (column c.before.before.before.before) c.args.t.now (word 0 c.args.t.now) i

abbrev line : (c : AtAtLoopI) → Span
line c = line_here c.args.t.now (1 + c.loop-i.i * c.args.column.stride + c.args.column.offset)

next : (c : AtAfterHasLine) → c.has_line.result ≡ true → lines c.before.before.before c.loop-i.i ≡ line c.before.before.before ∷ lines c.before.before.before (c.loop-i.i + 1)
next c e =
    let s = c.before.before.before.before.before.before in
    let a = s.args in
    from-with a.column.stride a.column.offset a.column.marked a.t.now (word 0 a.t.now) c.loop-i.i s.requires.0.line s.requires.0.row c.loop-i-test.true (room c.before.before) c.has_line.result c.has_line.ensures e

pub bounds-t-0 : goal.bounds-t-0
bounds-t-0 c = let f = counted-facts 4096 c.args.column.stride c.args.t.now c.requires.0.counts in omega arith

pub loop-i-init : goal.loop-i-init
loop-i-init c = let a = c.args in (omega arith, down-start (column_of a.column.stride a.column.offset a.column.marked) a.t.now a.reach a.coordinates.now a.at)

pub overflow_mul-row : goal.overflow_mul-row
overflow_mul-row c = omega (arith, room c.before.before, c.well_formed)

pub overflow_add-row : goal.overflow_add-row
overflow_add-row c = omega (arith, room c.before.before, c.well_formed)

pub has_line-requires : goal.has_line-requires
has_line-requires c = omega (arith, room c.before.before, c.requires.0.row)

pub overflow_add-k : goal.overflow_add-k
overflow_add-k c = omega (arith, room c.before.before.before.before.before, c.requires.0.line, c.well_formed)

pub overflow_add-size : goal.overflow_add-size
overflow_add-size c = omega (arith, room c.before.before.before.before.before, c.requires.0.line, c.well_formed)

pub offset_bounds-t-k : goal.offset_bounds-t-k
offset_bounds-t-k c = omega (arith, room c.before.before.before.before.before, c.requires.0.line, c.well_formed)

pub bounds-t-k : goal.bounds-t-k
bounds-t-k c = omega (arith, room c.before.before.before.before.before.before, c.requires.0.line, c.well_formed)

pub offset_bounds-t-k-then-has_line : goal.offset_bounds-t-k-then-has_line
offset_bounds-t-k-then-has_line c = omega (arith, room c.before.before.before.before.before.before, c.requires.0.line, c.well_formed)

pub bounds-t-k-then-has_line : goal.bounds-t-k-then-has_line
bounds-t-k-then-has_line c = omega (arith, room c.before.before.before.before.before.before.before, c.requires.0.line, c.well_formed)

pub line_down-requires : goal.line_down-requires
line_down-requires c =
    let s = c.before.before.before.before.before.before.before.before.before.before.before in
    let l = c.loop-i in
    let k = column s.before.before in
    let t = s.args.t.now in
    let f = lies s.args.reach 65536 in
    let h = c.loop-i-test.true in
    let u : all f (lines c.before.before.before.before.before.before.before.before.before l.i) ≡ true = all_from k t f (word 0 t) l.i (omega arith) (rw (from_start k t) at s.requires.0.lines) in
    (all_head f (line c.before.before.before.before.before.before.before.before.before) (lines c.before.before.before.before.before.before.before.before.before (l.i + 1)) (rw (next c.before.before.before.before.before.before c.if-has_line.true) at u), (s.requires.1.near, omega (arith, l.invariant.1.floats, s.requires.1.stored)))

pub overflow_add-place : goal.overflow_add-place
overflow_add-place c =
    let s = c.before.before.before.before.before.before.before.before.before.before.before.before.before.before in
    let a = s.args in
    let l = c.loop-i in
    omega (arith, down-room (column s.before.before) a.t.now a.reach a.coordinates.now a.at (word 0 a.t.now) l.i l.coordinates l.place l.invariant.1 (line c.before.before.before.before.before.before.before.before.before.before.before.before) (next c.before.before.before.before.before.before.before.before.before c.if-has_line.true), s.requires.1.room, s.well_formed)

pub loop-i-preserved : goal.loop-i-preserved
loop-i-preserved c =
    let s = c.before.before.before.before.before.before.before.before in
    let a = s.args in
    let l = c.loop-i in
    let k = column s.before in
    let t = a.t.now in
    let n = word 0 t in
    let h = c.loop-i-test.true in
    let b = c.has_line in
    ⊎_elim
    (λ w. (omega (arith, h), down-with k t a.reach a.coordinates.now a.at n l.i l.coordinates l.place l.invariant.1 (line c.before.before.before.before.before) (next c.before.before w.if-has_line.true) c.if-has_line.coordinates c.if-has_line.place (ap length w.coordinates-is ∙ w.line_down.auto.coordinates) (w.coordinates-is ∙ w.line_down.ensures) w.place-is))
    (λ w. (omega (arith, h), down-without k t a.reach a.coordinates.now a.at n l.i l.coordinates l.place l.invariant.1 (from-without a.column.stride a.column.offset a.column.marked t n l.i s.requires.0.line s.requires.0.row h (room c.before.before.before.before) b.result b.ensures w.if-has_line.false) c.if-has_line.coordinates c.if-has_line.place w.coordinates-is w.place-is))
    c.if-has_line.branch-raw

pub shape_of-coordinates : goal.shape_of-coordinates
shape_of-coordinates c = c.loop-i.invariant.1.floats

pub returns : goal.returns
returns c =
    let a = c.args in
    let l = c.loop-i in
    down-done (column c.before.before.before.before.before.before) a.t.now a.reach a.coordinates.now a.at (word 0 a.t.now) l.i l.coordinates l.place l.invariant.1 c.loop-i-test.false
