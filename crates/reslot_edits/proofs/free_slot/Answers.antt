-- `slots::free_slot` meets its contract. Assumes nothing.
use Rattle.std.specs.Prelude.{None}
use borrow.Author.Rules.{rules}
use Prim.Native.Nat.{◌+◌, ◌*◌, ◌≤◌}
use native.Mathlib.Omega.{arith}
use lib.ListN.{length, get_or}
use Rattle.row_tests.proofs.Lanes.{lane_room}
use Rattle.reslot.proofs.Reslot.{ids_few, FreeEnds, free-ends}
use Rattle.reslot_edits.proofs.free_slot.Goals as goal
use Rattle.reslot_edits.proofs.free_slot.Lts as lts
use Rattle.reslot_edits.proofs.free_slot.Reads as reads
use Rattle.reslot_edits.proofs.free_slot.Tie as tie

abbrev AtStart : Type 0
AtStart = lts.Start tie.the-claims reads.Pre reads.Post

abbrev AtAfterFits : Type 0
AtAfterFits = lts.After-fits tie.the-claims reads.Pre reads.Post

room : (c : AtStart) → 1 + c.args.i * 52 + 52 ≤ length c.args.lanes.now
room c = lane_room c.args.lanes.now c.requires.0 c.args.i c.requires.1

abbrev start : AtAfterFits → AtStart
start c = c.before.before.before.before.before.before.before.before.before.before.before

ends : (c : AtAfterFits) →
    FreeEnds (start c).args.lanes.now (start c).args.i (start c).args.side (start c).args.modified.now (start c).args.warnings.now c.is_free-free.result c.no_op_where-first.result c.touched-n.result c.touched-n.new.ids c.fits.result
ends c =
    let a = (start c).args in
    let o = c.neighbor-old in
    let f = c.is_free-free in
    let w = c.no_op_where-first in
    let m = c.touched-n in
    free-ends a.lanes.now a.i a.side a.modified.now a.warnings.now o.result f.result w.result m.result m.new.ids c.fits.result
    o.ensures f.ensures w.ensures m.ensures c.fits.ensures

pub overflow_mul-lane : goal.overflow_mul-lane
overflow_mul-lane c = omega (arith, room c.before.before.before.before)

pub overflow_add-lane : goal.overflow_add-lane
overflow_add-lane c = omega (arith, room c.before.before.before.before)

pub offset_bounds-lanes-i : goal.offset_bounds-lanes-i
offset_bounds-lanes-i c = omega (arith, room c.before.before.before.before)

pub bounds-lanes-i : goal.bounds-lanes-i
bounds-lanes-i c = omega (arith, room c.before.before.before.before.before)

pub slice_bounds-ids-end : goal.slice_bounds-ids-end
slice_bounds-ids-end c =
    let a = c.args in
    let m = c.touched-n in
    omega (arith, m.auto.ids, ids_few c.is_free-free.result (get_or a.lanes.now (1 + a.i * 52) 0) c.neighbor-old.result None None m.result m.ensures.1)

pub slice_bounds-report-end : goal.slice_bounds-report-end
slice_bounds-report-end c = (ends c.before.before).counted

pub report-counts-requires : goal.report-counts-requires
report-counts-requires c = (ends c.before.before.before.before).fitting c.if-fits.true

pub returns-then-fits : goal.returns-then-fits
returns-then-fits c =
    let v = c.clear_unless in
    let m = c.report-counts in
    (ends c.before.before.before.before.before.before.before.before.before.before.before.before.before.before).changed c.if-fits.true v.new.lanes m.new.modified m.new.warnings m.result v.ensures m.ensures

pub returns : goal.returns
returns c = (ends c.before).refused c.if-fits.false
