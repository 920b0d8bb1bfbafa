-- `lines_apart::take_centers` meets its contract. The invariant: what the lanes' centrelines find and mark is what those from lane i on do, from the marks as they are.
use mathlib.Core.Bool.{not}
use borrow.Author.Tests.{not-true, not-false}
use mathlib.Core.Path.{◌≡◌, sym, ap, ◌∙◌}
use mathlib.Core.List.{List, ◌++◌}
use Prim.Native.Nat.{ℕ, ◌+◌, ◌-◌, ◌*◌, ◌≤◌}
use native.Mathlib.Omega.{arith}
use lib.ListN.{length, take, drop}
use Rattle.lists.specs.Rows.{reads}
use Rattle.tables.specs.View.{word, rows}
use Rattle.tables.specs.Formed.{Span, center_span}
use Rattle.apart.proofs.Marks.{joined, rows_start, joined_end, part_length, row_in, counted-facts}
use Rattle.apart.proofs.Walk.{Left, left-start, left_lane, left-fits, left_step, left-stop, left-done, never}
use Rattle.lines_apart.proofs.take_centers.Goals as goal
use Rattle.lines_apart.proofs.take_centers.Lts as lts
use Rattle.lines_apart.proofs.take_centers.Reads as reads
use Rattle.lines_apart.proofs.take_centers.Tie as tie

abbrev AtInLoopI : Type 0
AtInLoopI = lts.In-loop tie.the-claims reads.Pre reads.Post goal.the-invariant-loop-i goal.the-decreases-loop-i

-- in a turn: the lane's row lies in the table, and its centreline is the next
room : (c : AtInLoopI) → 1 + c.loop-i.i * 52 + 52 ≤ length c.args.t.now
room c =
    let s = c in
    row_in 1024 52 c.loop-i.i s.args.t.now s.requires.0 c.loop-i-test.true

abbrev width : (c : AtInLoopI) → ℕ
width c = 1 + c.loop-i.i * 52 + 52 - (1 + c.loop-i.i * 52)

wide : (c : AtInLoopI) → width c ≡ 52
wide c = omega arith

abbrev lane : (c : AtInLoopI) → List ℕ
lane c = take (width c) (drop (1 + c.loop-i.i * 52) c.args.t.now)

abbrev whole : (c : AtInLoopI) → List Span
whole c = joined (rows 52 center_span c.args.t.now)

abbrev rest : (c : AtInLoopI) → List Span
rest c =
    let t = c.args.t.now in
    joined (reads 52 center_span (word 0 t - (c.loop-i.i + 1)) (drop ((c.loop-i.i + 1) * 52) (drop 1 t)))

next : (c : AtInLoopI) → Left c.args.marks.now (whole c) c.loop-i.marks (center_span (lane c) ++ rest c)
next c =
    let a = c.args in
    left_lane a.marks.now (whole c) c.loop-i.marks a.t.now (word 0 a.t.now) c.loop-i.i (width c) (wide c) c.loop-i-test.true c.loop-i.invariant.1

pub bounds-t-0 : goal.bounds-t-0
bounds-t-0 c = let f = counted-facts 1024 52 c.args.t.now c.requires.0 in omega arith

pub loop-i-init : goal.loop-i-init
loop-i-init c = let a = c.args in (omega arith, left-start a.marks.now (joined (rows 52 center_span a.t.now)) (joined (reads 52 center_span (word 0 a.t.now - 0) (drop (0 * 52) (drop 1 a.t.now)))) (ap joined (rows_start 52 center_span a.t.now)) c.requires.1)

pub overflow_mul-at : goal.overflow_mul-at
overflow_mul-at c = omega (arith, room c.before)

pub overflow_add-at : goal.overflow_add-at
overflow_add-at c = omega (arith, room c.before)

pub overflow_add-end : goal.overflow_add-end
overflow_add-end c = omega (arith, room c.before)

pub offset_bounds-t-at : goal.offset_bounds-t-at
offset_bounds-t-at c = omega (arith, room c.before)

pub slice_bounds-take_center-end : goal.slice_bounds-take_center-end
slice_bounds-take_center-end c = room c.before

pub take_center-requires : goal.take_center-requires
take_center-requires c =
    let t = c in
    let long = part_length c.args.t.now (1 + c.loop-i.i * 52) (width c.before.before.before) 52 (wide c.before.before.before) (room c.before.before.before) in
    let fits = left-fits c.args.marks.now (whole c.before.before.before) c.loop-i.marks (center_span (lane c.before.before.before)) (rest c.before.before.before) (next c.before.before.before) in
    (long, fits)

pub loop-i-preserved : goal.loop-i-preserved
loop-i-preserved c =
    let t = c in
    let l = c.take_center in
    (omega arith, left_step c.args.marks.now (whole c.before.before.before.before.before.before.before) c.loop-i.marks (center_span (lane c.before.before.before.before.before.before.before)) (rest c.before.before.before.before.before.before.before) (next c.before.before.before.before.before.before.before) l.new.marks l.auto.marks (sym l.ensures.0 ∙ (not-false c.take_center.result (ap not c.if-not-take_center.false))) (l.ensures.1 (not-false c.take_center.result (ap not c.if-not-take_center.false))))

pub shape_of-marks-then-not-take_center : goal.shape_of-marks-then-not-take_center
shape_of-marks-then-not-take_center c = c.take_center.auto.marks ∙ c.loop-i.invariant.1.long

pub returns-then-not-take_center : goal.returns-then-not-take_center
returns-then-not-take_center c =
    let t = c in
    (sym (left-stop c.args.marks.now (whole c.before.before.before.before.before.before.before) c.loop-i.marks (center_span (lane c.before.before.before.before.before.before.before)) (rest c.before.before.before.before.before.before.before) (next c.before.before.before.before.before.before.before) (sym c.take_center.ensures.0 ∙ (not-true c.take_center.result (ap not c.if-not-take_center.true)))), λ h. never h)

pub returns : goal.returns
returns c =
    let a = c.args in
    let w = word 0 a.t.now in
    let v = drop (c.loop-i.i * 52) (drop 1 a.t.now) in
    let d = left-done a.marks.now (joined (rows 52 center_span a.t.now)) c.loop-i.marks (joined (reads 52 center_span (w - c.loop-i.i) v)) (joined_end w c.loop-i.i v c.loop-i-test.false) c.loop-i.invariant.1 in
    (d.0, λ h. d.1)
