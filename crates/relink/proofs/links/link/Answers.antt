-- `edit::links::link` meets its contract. Assumes nothing.
use borrow.Author.Rules.{rules}
use native.Mathlib.Omega.{arith}
use lib.ListN.{get_or}
use Prim.Native.Nat.{◌+◌, ◌*◌}
use Rattle.row_tests.proofs.Lanes.{lane_room}
use Rattle.relink.proofs.Reported.{pair-few, link-counted, link_fits, link-room, link-done, link-full}
use Rattle.relink.proofs.links.link.Goals as goal

pub overflow_mul-from : goal.overflow_mul-from
overflow_mul-from c = omega (arith, lane_room c.args.lanes.now c.requires.0 c.args.i c.requires.1.0)

pub overflow_add-from : goal.overflow_add-from
overflow_add-from c = omega (arith, lane_room c.args.lanes.now c.requires.0 c.args.i c.requires.1.0)

pub offset_bounds-lanes-i : goal.offset_bounds-lanes-i
offset_bounds-lanes-i c = omega (arith, lane_room c.args.lanes.now c.requires.0 c.args.i c.requires.1.0)

pub bounds-lanes-i : goal.bounds-lanes-i
bounds-lanes-i c = omega (arith, lane_room c.args.lanes.now c.requires.0 c.args.i c.requires.1.0)

pub overflow_mul-to : goal.overflow_mul-to
overflow_mul-to c = omega (arith, lane_room c.args.lanes.now c.requires.0 c.args.j c.requires.1.1.0)

pub overflow_add-to : goal.overflow_add-to
overflow_add-to c = omega (arith, lane_room c.args.lanes.now c.requires.0 c.args.j c.requires.1.1.0)

pub offset_bounds-lanes-j : goal.offset_bounds-lanes-j
offset_bounds-lanes-j c = omega (arith, lane_room c.args.lanes.now c.requires.0 c.args.j c.requires.1.1.0)

pub bounds-lanes-j : goal.bounds-lanes-j
bounds-lanes-j c = omega (arith, lane_room c.args.lanes.now c.requires.0 c.args.j c.requires.1.1.0)

pub slice_bounds-ids-end : goal.slice_bounds-ids-end
slice_bounds-ids-end c = omega (arith, c.pair_unless-n.auto.ids, pair-few c.args.linked (get_or c.args.lanes.now (1 + c.args.i * 52) 0) (get_or c.args.lanes.now (1 + c.args.j * 52) 0) c.pair_unless-n.result c.pair_unless-n.ensures.1)

pub slice_bounds-report-end : goal.slice_bounds-report-end
slice_bounds-report-end c = link-counted c.args.lanes.now c.args.i c.args.j c.args.linked c.args.gap c.args.modified.now c.args.warnings.now c.pair_where-first.result c.no_op_where-second.result c.pair_unless-n.result c.pair_unless-n.new.ids c.pair_where-first.ensures c.no_op_where-second.ensures c.pair_unless-n.ensures c.link_room-room.result c.fits.result c.both.result c.link_room-room.ensures c.fits.ensures c.both.ensures

pub report-counts-requires : goal.report-counts-requires
report-counts-requires c = link_fits c.args.lanes.now c.args.i c.args.j c.args.linked c.args.gap c.args.modified.now c.args.warnings.now c.pair_where-first.result c.no_op_where-second.result c.pair_unless-n.result c.pair_unless-n.new.ids c.pair_where-first.ensures c.no_op_where-second.ensures c.pair_unless-n.ensures c.link_room-room.result c.fits.result c.both.result c.link_room-room.ensures c.fits.ensures c.both.ensures c.if-both.true

pub link_unless-requires : goal.link_unless-requires
link_unless-requires c = (c.requires, link-room c.args.lanes.now c.args.i c.args.j c.args.linked c.args.gap c.args.modified.now c.args.warnings.now c.pair_where-first.result c.no_op_where-second.result c.pair_unless-n.result c.pair_unless-n.new.ids c.pair_where-first.ensures c.no_op_where-second.ensures c.pair_unless-n.ensures c.link_room-room.result c.fits.result c.both.result c.link_room-room.ensures c.fits.ensures c.both.ensures c.if-both.true)

pub returns-then-both : goal.returns-then-both
returns-then-both c = link-done c.args.lanes.now c.args.i c.args.j c.args.linked c.args.gap c.args.modified.now c.args.warnings.now c.pair_where-first.result c.no_op_where-second.result c.pair_unless-n.result c.pair_unless-n.new.ids c.pair_where-first.ensures c.no_op_where-second.ensures c.pair_unless-n.ensures c.link_room-room.result c.fits.result c.both.result c.link_room-room.ensures c.fits.ensures c.both.ensures c.if-both.true c.link_unless.new.lanes c.report-counts.new.modified c.report-counts.new.warnings c.report-counts.result c.link_unless.ensures c.report-counts.ensures

pub returns : goal.returns
returns c = link-full c.args.lanes.now c.args.i c.args.j c.args.linked c.args.gap c.args.modified.now c.args.warnings.now c.pair_where-first.result c.no_op_where-second.result c.pair_unless-n.result c.pair_unless-n.new.ids c.pair_where-first.ensures c.no_op_where-second.ensures c.pair_unless-n.ensures c.link_room-room.result c.fits.result c.both.result c.link_room-room.ensures c.fits.ensures c.both.ensures c.if-both.false
