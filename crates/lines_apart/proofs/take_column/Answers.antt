-- `lines_apart::take_column` meets its contract. The invariant: what the column's lines find and mark is what those from row i on do, from the marks as they are.
use mathlib.Core.Bool.{not}
use borrow.Author.Tests.{not-true, not-false}
use mathlib.Core.Path.{refl, sym, ◌∙◌, ap}
use mathlib.Core.List.{List, [], ◌∷◌}
use Prim.Native.Nat.{◌+◌, ◌-◌, ◌*◌, ◌≤◌}
use native.Mathlib.Omega.{arith}
use lib.ListN.{length, get_or, drop}
use Rattle.lists.specs.Rows.{reads}
use Rattle.lists.proofs.Every.{all_head}
use Rattle.tables.specs.View.{word, rows}
use Rattle.tables.specs.Formed.{Span, span_at}
use Rattle.apart.specs.Marks.{within}
use Rattle.apart.proofs.Marks.{rows_start, reads_end, row_in, counted-facts, take-one}
use Rattle.apart.proofs.Walk.{Left, left-start, left-row, left-fits, left_step, left-stop, left-done, never}
use Rattle.lines_apart.proofs.take_column.Goals as goal
use Rattle.lines_apart.proofs.take_column.Lts as lts
use Rattle.lines_apart.proofs.take_column.Reads as reads
use Rattle.lines_apart.proofs.take_column.Tie as tie

abbrev AtInLoopI : Type 0
AtInLoopI = lts.In-loop tie.the-claims reads.Pre reads.Post goal.the-invariant-loop-i goal.the-decreases-loop-i

-- in a turn: the row lies in the table, and its line is the next
room : (c : AtInLoopI) → 1 + c.loop-i.i * c.args.row + c.args.row ≤ length c.args.t.now
room c =
    let s = c in
    row_in 4096 s.args.row c.loop-i.i s.args.t.now s.requires.1.1.0 c.loop-i-test.true

abbrev line : (c : AtInLoopI) → Span
line c =
    let a = c.args in
    record { start = get_or a.t.now (1 + c.loop-i.i * a.row + a.k) 0; size = get_or a.t.now (1 + c.loop-i.i * a.row + a.k + 1) 0 }

abbrev rest : (c : AtInLoopI) → List Span
rest c =
    let a = c.args in
    reads a.row (span_at a.k) (word 0 a.t.now - (c.loop-i.i + 1)) (drop ((c.loop-i.i + 1) * a.row) (drop 1 a.t.now))

abbrev whole : (c : AtInLoopI) → List Span
whole c = let a = c.args in rows a.row (span_at a.k) a.t.now

next : (c : AtInLoopI) → Left c.args.marks.now (whole c) c.loop-i.marks (line c ∷ rest c)
next c =
    let s = c in
    let a = s.args in
    left-row a.marks.now (whole c) c.loop-i.marks a.t.now a.row a.k (word 0 a.t.now) c.loop-i.i s.requires.0 c.loop-i-test.true c.loop-i.invariant.1

pub bounds-t-0 : goal.bounds-t-0
bounds-t-0 c = let f = counted-facts 4096 c.args.row c.args.t.now c.requires.1.1.0 in omega arith

pub loop-i-init : goal.loop-i-init
loop-i-init c = let a = c.args in (omega arith, left-start a.marks.now (rows a.row (span_at a.k) a.t.now) (reads a.row (span_at a.k) (word 0 a.t.now - 0) (drop (0 * a.row) (drop 1 a.t.now))) (rows_start a.row (span_at a.k) a.t.now) c.requires.1.1.1)

pub overflow_mul-at : goal.overflow_mul-at
overflow_mul-at c = omega (arith, room c.before)

pub overflow_add-at : goal.overflow_add-at
overflow_add-at c = omega (arith, room c.before)

pub overflow_add-at-in-loop-i : goal.overflow_add-at-in-loop-i
overflow_add-at-in-loop-i c = omega (arith, room c.before)

pub offset_bounds-t-at : goal.offset_bounds-t-at
offset_bounds-t-at c = omega (arith, room c.before.before)

pub bounds-t-at : goal.bounds-t-at
bounds-t-at c = omega (arith, room c.before.before.before)

pub overflow_add-at-in-loop-i-2 : goal.overflow_add-at-in-loop-i-2
overflow_add-at-in-loop-i-2 c = omega (arith, room c.before.before.before)

pub offset_bounds-t-at-in-loop-i : goal.offset_bounds-t-at-in-loop-i
offset_bounds-t-at-in-loop-i c = omega (arith, room c.before.before.before)

pub bounds-t-at-in-loop-i : goal.bounds-t-at-in-loop-i
bounds-t-at-in-loop-i c = omega (arith, room c.before.before.before.before)

pub take_line-requires : goal.take_line-requires
take_line-requires c = all_head (within (length c.loop-i.marks)) (line c.before.before.before.before) [] (left-fits c.args.marks.now (whole c.before.before.before.before) c.loop-i.marks (line c.before.before.before.before ∷ []) (rest c.before.before.before.before) (next c.before.before.before.before))

pub loop-i-preserved : goal.loop-i-preserved
loop-i-preserved c =
    let t = c in
    let e = take-one c.loop-i.marks c.take_line.new.marks (line c.before.before.before.before.before.before.before.before) (line c.before.before.before.before.before.before.before.before ∷ []) c.take_line.result refl c.take_line.ensures.0 c.take_line.ensures.1 in
    (omega arith, left_step c.args.marks.now (whole c.before.before.before.before.before.before.before.before) c.loop-i.marks (line c.before.before.before.before.before.before.before.before ∷ []) (rest c.before.before.before.before.before.before.before.before) (next c.before.before.before.before.before.before.before.before) c.take_line.new.marks c.take_line.auto.marks (sym e.0 ∙ (not-false c.take_line.result (ap not c.if-not-take_line.false))) (e.1 (not-false c.take_line.result (ap not c.if-not-take_line.false))))

pub shape_of-marks-then-not-take_line : goal.shape_of-marks-then-not-take_line
shape_of-marks-then-not-take_line c = c.take_line.auto.marks ∙ c.loop-i.invariant.1.long

pub returns-then-not-take_line : goal.returns-then-not-take_line
returns-then-not-take_line c =
    let t = c in
    let e = take-one c.loop-i.marks c.take_line.new.marks (line c.before.before.before.before.before.before.before.before) (line c.before.before.before.before.before.before.before.before ∷ []) c.take_line.result refl c.take_line.ensures.0 c.take_line.ensures.1 in
    (sym (left-stop c.args.marks.now (whole c.before.before.before.before.before.before.before.before) c.loop-i.marks (line c.before.before.before.before.before.before.before.before ∷ []) (rest c.before.before.before.before.before.before.before.before) (next c.before.before.before.before.before.before.before.before) (sym e.0 ∙ (not-true c.take_line.result (ap not c.if-not-take_line.true)))), λ h. never h)

pub returns : goal.returns
returns c =
    let a = c.args in
    let w = word 0 a.t.now in
    let z = reads_end a.row (span_at a.k) w c.loop-i.i (drop (c.loop-i.i * a.row) (drop 1 a.t.now)) c.loop-i-test.false in
    let d = left-done a.marks.now (rows a.row (span_at a.k) a.t.now) c.loop-i.marks (reads a.row (span_at a.k) (w - c.loop-i.i) (drop (c.loop-i.i * a.row) (drop 1 a.t.now))) z c.loop-i.invariant.1 in
    (d.0, λ h. d.1)
