-- `order::column_behind` meets its contract. The invariant: the point behind all lines is that behind the lines of the rows from i on, from the place as it is.
use mathlib.Core.Path.{◌≡◌, ap, ◌∙◌}
use mathlib.Core.Bool.{true}
use native.Mathlib.Omega.{arith}
use Prim.Native.Nat.{◌+◌, ◌*◌, ◌≤◌}
use lib.ListN.{length}
use Rattle.lists.specs.Every.{all}
use Rattle.lists.proofs.Every.{all_head}
use Rattle.tables.specs.View.{word}
use Rattle.apart.specs.Marks.{within}
use Rattle.apart.proofs.Marks.{counted-facts, row_in}
use Rattle.layout.specs.Layout.{column_lines}
use Rattle.order.specs.Order.{column_of, behind_all}
use Rattle.order.proofs.Walk.{lines_from, line_here, from_start, from_end, all_from, from-with, from-without}
use Rattle.order.proofs.Behind.{behind_more, behind-all}
use Rattle.order.proofs.column_behind.Goals as goal
use Rattle.order.proofs.column_behind.Lts as lts
use Rattle.order.proofs.column_behind.Reads as reads
use Rattle.order.proofs.column_behind.Tie as tie

abbrev AtInLoopI : Type 0
AtInLoopI = lts.In-loop tie.the-claims reads.Pre reads.Post goal.the-invariant-loop-i goal.the-decreases-loop-i

-- in a turn: the row lies in the table
room : (c : AtInLoopI) → 1 + c.loop-i.i * c.args.stride + c.args.stride ≤ length c.args.t.now
room c =
    let s = c in
    row_in 4096 s.args.stride c.loop-i.i s.args.t.now s.requires.1.1.1.1.0 c.loop-i-test.true

pub bounds-t-0 : goal.bounds-t-0
bounds-t-0 c = let f = counted-facts 4096 c.args.stride c.args.t.now c.requires.1.1.1.1.0 in omega arith

pub loop-i-init : goal.loop-i-init
loop-i-init c = let a = c.args in (omega arith, ap (behind_all a.reach a.from) (from_start (column_of a.stride a.offset a.marked) a.t.now))

pub overflow_mul-row : goal.overflow_mul-row
overflow_mul-row c = omega (arith, room c.before, c.well_formed)

pub overflow_add-row : goal.overflow_add-row
overflow_add-row c = omega (arith, room c.before, c.well_formed)

pub has_line-requires : goal.has_line-requires
has_line-requires c = omega (arith, room c.before, c.requires.1.0)

pub overflow_add-at : goal.overflow_add-at
overflow_add-at c = omega (arith, room c.before.before.before, c.requires.0, c.well_formed)

pub offset_bounds-t-at : goal.offset_bounds-t-at
offset_bounds-t-at c = omega (arith, room c.before.before.before, c.requires.0, c.well_formed)

pub bounds-t-at : goal.bounds-t-at
bounds-t-at c = omega (arith, room c.before.before.before.before, c.requires.0, c.well_formed)

pub overflow_add-at-then-has_line : goal.overflow_add-at-then-has_line
overflow_add-at-then-has_line c = omega (arith, room c.before.before.before.before, c.requires.0, c.well_formed)

pub offset_bounds-t-at-then-has_line : goal.offset_bounds-t-at-then-has_line
offset_bounds-t-at-then-has_line c = omega (arith, room c.before.before.before.before, c.requires.0, c.well_formed)

pub bounds-t-at-then-has_line : goal.bounds-t-at-then-has_line
bounds-t-at-then-has_line c = omega (arith, room c.before.before.before.before.before, c.requires.0, c.well_formed)

pub line_behind-far-requires : goal.line_behind-far-requires
line_behind-far-requires c =
    let s = c in
    let a = s.args in
    let i = c.loop-i.i in
    let k = column_of a.stride a.offset a.marked in
    let t = a.t.now in
    let n = word 0 t in
    let f = within 131072 in
    let h = c.loop-i-test.true in
    let e = from-with a.stride a.offset a.marked t n i s.requires.0 s.requires.1.0 h (room c.before.before.before.before.before) c.has_line.result c.has_line.ensures c.if-has_line.true in
    let u : all f (lines_from k t n i) ≡ true = all_from k t f n i (omega arith) (rw (from_start k t) at s.requires.1.1.1.1.1) in
    (s.requires.1.1.1.0, all_head f (line_here t (1 + i * a.stride + a.offset)) (lines_from k t n (i + 1)) (rw e at u))

pub loop-i-preserved : goal.loop-i-preserved
loop-i-preserved c =
    let s = c in
    let a = s.args in
    let l = c.loop-i in
    let k = column_of a.stride a.offset a.marked in
    let t = a.t.now in
    let n = word 0 t in
    let h = c.loop-i-test.true in
    let b = c.has_line in
    let g = room c.before.before.before in
    let ls = column_lines k t in
    elim c.if-has_line.branch [
      | goal.then-has_line w ↦ (omega (arith, h), behind_more a.reach a.from l.far c.if-has_line.far ls (lines_from k t n (l.i + 1)) (lines_from k t n l.i) (line_here t (1 + l.i * a.stride + a.offset)) l.invariant.1 (from-with a.stride a.offset a.marked t n l.i s.requires.0 s.requires.1.0 h g b.result b.ensures w.if-has_line.true) (w.far-is ∙ w.line_behind-far.ensures))
      | goal.else-has_line w ↦ (omega (arith, h), l.invariant.1 ∙ rw (from-without a.stride a.offset a.marked t n l.i s.requires.0 s.requires.1.0 h g b.result b.ensures w.if-has_line.false, w.far-is))
    ]

pub returns : goal.returns
returns c =
    let a = c.args in
    let l = c.loop-i in
    let k = column_of a.stride a.offset a.marked in
    let t = a.t.now in
    behind-all a.reach a.from l.far (column_lines k t) (lines_from k t (word 0 t) l.i) l.invariant.1 (from_end k t (word 0 t) l.i c.loop-i-test.false)
