-- `settling::column_up` meets its contract. The invariant: the lines of the rows from i on are at their places, which begin at the place as it is. Assumes nothing.
use mathlib.Core.Path.{◌≡◌, refl, ap}
use mathlib.Core.Bool.{true}
use mathlib.Core.List.{List, ◌∷◌}
use native.Mathlib.Omega.{arith}
use Prim.Native.Nat.{ℕ, ◌+◌, ◌-◌, ◌*◌, ◌/◌, ◌≤◌}
use lib.ListN.{length}
use Rattle.lists.specs.Every.{all}
use Rattle.lists.proofs.Every.{all_head}
use Rattle.tables.specs.View.{word}
use Rattle.tables.specs.Formed.{Span}
use Rattle.apart.proofs.Marks.{counted-facts, row_in}
use Rattle.layout.specs.Layout.{Column, points_in}
use Rattle.order.specs.Order.{column_of}
use Rattle.order.proofs.Walk.{lines_from, line_here, from_start, all_from, points-from, from-with, from-without}
use Rattle.in_place.specs.Settle.{lies}
use Rattle.in_place.proofs.Walks.{up-begin, up_room, up-with, up-without, up-finish}
use Rattle.settling.proofs.column_up.Goals as goal
use Rattle.settling.proofs.column_up.Lts as lts
use Rattle.settling.proofs.column_up.Reads as reads
use Rattle.settling.proofs.column_up.Tie as tie

abbrev AtStart : Type 0
AtStart = lts.Start tie.the-claims reads.Pre reads.Post goal.the-invariant-loop-i goal.the-decreases-loop-i

abbrev AtAtLoopI : Type 0
AtAtLoopI = lts.At-loop tie.the-claims reads.Pre reads.Post goal.the-invariant-loop-i goal.the-decreases-loop-i

abbrev AtInLoopI : Type 0
AtInLoopI = lts.In-loop tie.the-claims reads.Pre reads.Post goal.the-invariant-loop-i goal.the-decreases-loop-i

abbrev AtAfterHasLine : Type 0
AtAfterHasLine = lts.After-has_line tie.the-claims reads.Pre reads.Post goal.the-invariant-loop-i goal.the-decreases-loop-i

abbrev column : AtStart → Column
column s = column_of s.args.column.stride s.args.column.offset s.args.column.marked

abbrev lines : (c : AtAtLoopI) → ℕ → List Span
lines c i = lines_from (column c.before.before.before.before.before) c.args.t.now (word 0 c.args.t.now) i

abbrev line : (c : AtAtLoopI) → Span
line c = line_here c.args.t.now (1 + (c.loop-i.i - 1) * c.args.column.stride + c.args.column.offset)

-- in a turn: the row lies in the table, its line is the next one, and there is room for it before the place
room : (c : AtInLoopI) → 1 + (c.loop-i.i - 1) * c.args.column.stride + c.args.column.stride ≤ length c.args.t.now
room c =
    let s = c.before.before.before.before.before.before in
    row_in 4096 s.args.column.stride (c.loop-i.i - 1) s.args.t.now s.requires.0.counts (omega (arith, c.loop-i-test.true, c.loop-i.invariant.0))

next : (c : AtAfterHasLine) → c.has_line.result ≡ true → lines c.before.before.before (c.loop-i.i - 1) ≡ line c.before.before.before ∷ lines c.before.before.before (c.loop-i.i - 1 + 1)
next c e =
    let s = c.before.before.before.before.before.before.before in
    let a = s.args in
    let i = c.loop-i.i in
    from-with a.column.stride a.column.offset a.column.marked a.t.now (word 0 a.t.now) (i - 1) s.requires.0.line s.requires.0.row (omega (arith, c.loop-i-test.true, c.loop-i.invariant.0)) (room c.before.before) c.has_line.result c.has_line.ensures e

-- the row before row i
before-i : (c : AtInLoopI) → c.loop-i.i - 1 + 1 ≡ c.loop-i.i
before-i c = omega (arith, c.loop-i-test.true)

fits : (c : AtAfterHasLine) → c.has_line.result ≡ true → (line c.before.before.before).size ≤ c.loop-i.place
fits c e =
    let s = c.before.before.before.before.before.before.before in
    let a = s.args in
    let k = column s.before in
    let l = c.loop-i in
    let t = a.t.now in
    let n = word 0 t in
    let p : points_in (lines_from k t n (l.i - 1)) ≤ a.end = omega (arith, points-from k t n (l.i - 1) (omega (arith, l.invariant.0)), ap points_in (from_start k t), s.requires.1.0) in
    up_room k t a.drawn.now a.reach a.coordinates.now a.end n l.i (l.i - 1) l.coordinates l.place l.invariant.1 (before-i c.before.before) (line c.before.before.before) (next c e) p

pub bounds-t-0 : goal.bounds-t-0
bounds-t-0 c = let f = counted-facts 4096 c.args.column.stride c.args.t.now c.requires.0.counts in omega arith

pub loop-i-init : goal.loop-i-init
loop-i-init c = let a = c.args in (omega arith, up-begin (column_of a.column.stride a.column.offset a.column.marked) a.t.now a.drawn.now a.reach a.coordinates.now a.end (word 0 a.t.now))

pub overflow_mul-row : goal.overflow_mul-row
overflow_mul-row c = omega (arith, room c.before.before, c.well_formed)

pub overflow_add-row : goal.overflow_add-row
overflow_add-row c = omega (arith, room c.before.before, c.well_formed)

pub has_line-requires : goal.has_line-requires
has_line-requires c = omega (arith, room c.before.before, c.requires.0.row)

pub overflow_add-k : goal.overflow_add-k
overflow_add-k c = omega (arith, room c.before.before.before.before.before, c.requires.0.line, c.well_formed)

pub overflow_add-size : goal.overflow_add-size
overflow_add-size c = omega (arith, room c.before.before.before.before.before, c.requires.0.line, c.well_formed)

pub offset_bounds-t-k : goal.offset_bounds-t-k
offset_bounds-t-k c = omega (arith, room c.before.before.before.before.before, c.requires.0.line, c.well_formed)

pub bounds-t-k : goal.bounds-t-k
bounds-t-k c = omega (arith, room c.before.before.before.before.before.before, c.requires.0.line, c.well_formed)

pub overflow_sub-place : goal.overflow_sub-place
overflow_sub-place c = omega (arith, fits c.before.before.before.before c.if-has_line.true)

pub offset_bounds-t-k-then-has_line : goal.offset_bounds-t-k-then-has_line
offset_bounds-t-k-then-has_line c = omega (arith, room c.before.before.before.before.before.before, c.requires.0.line, c.well_formed)

pub bounds-t-k-then-has_line : goal.bounds-t-k-then-has_line
bounds-t-k-then-has_line c = omega (arith, room c.before.before.before.before.before.before.before, c.requires.0.line, c.well_formed)

pub line_up-requires : goal.line_up-requires
line_up-requires c =
    let s = c.before.before.before.before.before.before.before.before.before.before.before.before in
    let l = c.loop-i in
    let k = column s.before.before in
    let t = s.args.t.now in
    let f = lies s.args.reach (length s.args.drawn.now / 3) in
    let u : all f (lines c.before.before.before.before.before.before.before.before.before (l.i - 1)) ≡ true = all_from k t f (word 0 t) (l.i - 1) (omega (arith, l.invariant.0)) (rw (from_start k t) at s.requires.0.lines) in (
      all_head f (line c.before.before.before.before.before.before.before.before.before) (lines c.before.before.before.before.before.before.before.before.before (l.i - 1 + 1)) (rw (next c.before.before.before.before.before.before c.if-has_line.true) at u),
      record {
        near = s.requires.1.1.near;
        stored = omega (arith, l.invariant.1.floats, s.requires.1.1.stored);
        few = s.requires.1.1.few;
        room = omega (arith, l.invariant.1.floats, l.invariant.1.from, s.requires.1.1.room, fits c.before.before.before.before.before.before c.if-has_line.true);
      },
    )

pub loop-i-preserved-then-has_line : goal.loop-i-preserved-then-has_line
loop-i-preserved-then-has_line c =
    let s = c.before.before.before.before.before.before.before.before.before.before.before.before.before.before.before in
    let a = s.args in
    let l = c.loop-i in
    let g = c.line_up in
    let h = c.if-has_line.true in
    (omega (arith, l.invariant.0), up-with (column s.before.before) a.t.now a.drawn.now a.reach a.coordinates.now a.end (word 0 a.t.now) l.i (l.i - 1) l.coordinates l.place l.invariant.1 (before-i c.before.before.before.before.before.before.before.before.before.before.before) (line c.before.before.before.before.before.before.before.before.before.before.before.before) (next c.before.before.before.before.before.before.before.before.before h) g.new.coordinates (l.place - (line c.before.before.before.before.before.before.before.before.before.before.before.before).size) g.auto.coordinates g.ensures (omega (arith, fits c.before.before.before.before.before.before.before.before.before h)))

pub loop-i-preserved : goal.loop-i-preserved
loop-i-preserved c =
    let s = c.before.before.before.before.before.before.before.before.before in
    let a = s.args in
    let l = c.loop-i in
    let t = a.t.now in
    let n = word 0 t in
    let b = c.has_line in
    (omega (arith, l.invariant.0), up-without (column s.before) t a.drawn.now a.reach a.coordinates.now a.end n l.i (l.i - 1) l.coordinates l.place l.invariant.1 (before-i c.before.before.before.before) (from-without a.column.stride a.column.offset a.column.marked t n (l.i - 1) s.requires.0.line s.requires.0.row (omega (arith, c.loop-i-test.true, l.invariant.0)) (room c.before.before.before.before) b.result b.ensures c.if-has_line.false) l.coordinates l.place refl refl)

pub shape_of-coordinates : goal.shape_of-coordinates
shape_of-coordinates c = c.loop-i.invariant.1.floats

pub returns : goal.returns
returns c =
    let a = c.args in
    let l = c.loop-i in
    up-finish (column c.before.before.before.before.before.before.before) a.t.now a.drawn.now a.reach a.coordinates.now a.end l.i l.coordinates l.place l.invariant.1 (omega (arith, c.loop-i-test.false))
