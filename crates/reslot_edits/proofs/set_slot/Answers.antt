-- `slots::set_slot` meets its contract. Assumes nothing.
use Rattle.std.specs.Prelude.{Some}
use borrow.Author.Rules.{rules}
use Prim.Native.Nat.{◌+◌, ◌*◌, ◌≤◌}
use native.Mathlib.Omega.{arith}
use lib.ListN.{length, get_or}
use Rattle.row_tests.proofs.Lanes.{lane_room}
use Rattle.reslot.proofs.Reslot.{ids_few, SetEnds, set-ends}
use Rattle.reslot_edits.proofs.set_slot.Goals as goal
use Rattle.reslot_edits.proofs.set_slot.Lts as lts
use Rattle.reslot_edits.proofs.set_slot.Reads as reads
use Rattle.reslot_edits.proofs.set_slot.Tie as tie

abbrev AtStart : Type 0
AtStart = lts.Start tie.the-claims reads.Pre reads.Post

abbrev AtAfterFits : Type 0
AtAfterFits = lts.After-fits tie.the-claims reads.Pre reads.Post

room : (c : AtStart) → 1 + c.args.i * 52 + 52 ≤ length c.args.lanes.now
room c = lane_room c.args.lanes.now c.requires.0 c.args.i c.requires.1.0

room-beside : (c : AtStart) → 1 + c.args.j * 52 + 52 ≤ length c.args.lanes.now
room-beside c = lane_room c.args.lanes.now c.requires.0 c.args.j c.requires.1.1.0

abbrev start : AtAfterFits → AtStart
start c = c.before.before.before.before.before.before.before.before.before.before.before.before.before.before.before.before

ends : (c : AtAfterFits) →
    SetEnds (start c).args.lanes.now (start c).args.i (start c).args.side (start c).args.j (start c).args.direction (start c).args.modified.now (start c).args.warnings.now c.holds-set.result c.no_op_where-first.result c.pair_where-second.result c.touched-n.result c.touched-n.new.ids c.fits.result
ends c =
    let a = (start c).args in
    let r = c.reciprocal_side-answer in
    let o = c.neighbor-old in
    let h = c.neighbor-other in
    let s = c.holds-set in
    let w = c.no_op_where-first in
    let u = c.unshared-apart in
    let p = c.pair_where-second in
    let m = c.touched-n in
    set-ends a.lanes.now a.i a.side a.j a.direction a.modified.now a.warnings.now r.result o.result h.result s.result w.result u.result p.result m.result m.new.ids c.fits.result
    r.ensures o.ensures h.ensures s.ensures w.ensures u.ensures p.ensures m.ensures c.fits.ensures

pub overflow_mul-lane : goal.overflow_mul-lane
overflow_mul-lane c = omega (arith, room c.before.before.before.before.before)

pub overflow_add-lane : goal.overflow_add-lane
overflow_add-lane c = omega (arith, room c.before.before.before.before.before)

pub offset_bounds-lanes-i : goal.offset_bounds-lanes-i
offset_bounds-lanes-i c = omega (arith, room c.before.before.before.before.before)

pub bounds-lanes-i : goal.bounds-lanes-i
bounds-lanes-i c = omega (arith, room c.before.before.before.before.before.before)

pub overflow_mul-beside : goal.overflow_mul-beside
overflow_mul-beside c = omega (arith, room-beside c.before.before.before.before.before.before)

pub overflow_add-beside : goal.overflow_add-beside
overflow_add-beside c = omega (arith, room-beside c.before.before.before.before.before.before)

pub offset_bounds-lanes-j : goal.offset_bounds-lanes-j
offset_bounds-lanes-j c = omega (arith, room-beside c.before.before.before.before.before.before)

pub bounds-lanes-j : goal.bounds-lanes-j
bounds-lanes-j c = omega (arith, room-beside c.before.before.before.before.before.before.before)

pub slice_bounds-ids-end : goal.slice_bounds-ids-end
slice_bounds-ids-end c =
    let a = c.args in
    let m = c.touched-n in
    omega (arith, m.auto.ids, ids_few c.holds-set.result (get_or a.lanes.now (1 + a.i * 52) 0) c.neighbor-old.result (Some (record { lane = get_or a.lanes.now (1 + a.j * 52) 0; direction = a.direction })) c.neighbor-other.result m.result m.ensures.1)

pub slice_bounds-report-end : goal.slice_bounds-report-end
slice_bounds-report-end c = (ends c.before.before).counted

pub report-counts-requires : goal.report-counts-requires
report-counts-requires c = (ends c.before.before.before.before).fitting c.if-fits.true

pub set_unless-requires : goal.set_unless-requires
set_unless-requires c = c.requires

pub returns-then-fits : goal.returns-then-fits
returns-then-fits c =
    let v = c.set_unless in
    let m = c.report-counts in
    (ends c.before.before.before.before.before.before.before.before.before.before.before.before.before.before).changed c.if-fits.true v.new.lanes m.new.modified m.new.warnings m.result v.ensures m.ensures

pub returns : goal.returns
returns c = (ends c.before).refused c.if-fits.false
