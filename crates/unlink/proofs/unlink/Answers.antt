-- `edit::links::unlink` meets its contract. Assumes nothing.
use borrow.Author.Rules.{rules}
use native.Mathlib.Omega.{arith}
use mathlib.Core.Bool.{not}
use lib.ListN.{get_or}
use Prim.Native.Nat.{◌+◌, ◌*◌}
use Rattle.row_tests.proofs.Lanes.{lane_room}
use Rattle.relink.proofs.Reported.{pair-few, unlink_counted, unlink_fits, unlink_done, unlink_full}
use Rattle.unlink.proofs.unlink.Goals as goal

pub overflow_mul-from : goal.overflow_mul-from
overflow_mul-from c = omega (arith, lane_room c.args.lanes.now c.requires.0 c.args.i c.requires.1.0)

pub overflow_add-from : goal.overflow_add-from
overflow_add-from c = omega (arith, lane_room c.args.lanes.now c.requires.0 c.args.i c.requires.1.0)

pub offset_bounds-lanes-i : goal.offset_bounds-lanes-i
offset_bounds-lanes-i c = omega (arith, lane_room c.args.lanes.now c.requires.0 c.args.i c.requires.1.0)

pub bounds-lanes-i : goal.bounds-lanes-i
bounds-lanes-i c = omega (arith, lane_room c.args.lanes.now c.requires.0 c.args.i c.requires.1.0)

pub overflow_mul-to : goal.overflow_mul-to
overflow_mul-to c = omega (arith, lane_room c.args.lanes.now c.requires.0 c.args.j c.requires.1.1.0)

pub overflow_add-to : goal.overflow_add-to
overflow_add-to c = omega (arith, lane_room c.args.lanes.now c.requires.0 c.args.j c.requires.1.1.0)

pub offset_bounds-lanes-j : goal.offset_bounds-lanes-j
offset_bounds-lanes-j c = omega (arith, lane_room c.args.lanes.now c.requires.0 c.args.j c.requires.1.1.0)

pub bounds-lanes-j : goal.bounds-lanes-j
bounds-lanes-j c = omega (arith, lane_room c.args.lanes.now c.requires.0 c.args.j c.requires.1.1.0)

pub slice_bounds-ids-end : goal.slice_bounds-ids-end
slice_bounds-ids-end c = omega (arith, c.pair_unless-n.auto.ids, pair-few (not c.args.linked) (get_or c.args.lanes.now (1 + c.args.i * 52) 0) (get_or c.args.lanes.now (1 + c.args.j * 52) 0) c.pair_unless-n.result c.pair_unless-n.ensures.1)

pub slice_bounds-report-end : goal.slice_bounds-report-end
slice_bounds-report-end c = unlink_counted c.args.lanes.now c.args.i c.args.j c.args.linked c.args.modified.now c.args.warnings.now c.no_op_where-note.result c.pair_unless-n.result c.pair_unless-n.new.ids c.no_op_where-note.ensures c.pair_unless-n.ensures c.fits.result c.fits.ensures

pub report-told-requires : goal.report-told-requires
report-told-requires c = unlink_fits c.args.lanes.now c.args.i c.args.j c.args.linked c.args.modified.now c.args.warnings.now c.no_op_where-note.result c.pair_unless-n.result c.pair_unless-n.new.ids c.no_op_where-note.ensures c.pair_unless-n.ensures c.fits.result c.fits.ensures c.if-fits.true

pub remove_link-requires : goal.remove_link-requires
remove_link-requires c = (c.requires.0, (c.requires.1.0, c.requires.1.1.0))

pub returns-then-fits : goal.returns-then-fits
returns-then-fits c = unlink_done c.args.lanes.now c.args.i c.args.j c.args.linked c.args.modified.now c.args.warnings.now c.no_op_where-note.result c.pair_unless-n.result c.pair_unless-n.new.ids c.no_op_where-note.ensures c.pair_unless-n.ensures c.fits.result c.fits.ensures c.if-fits.true c.remove_link.new.lanes c.report-told.new.modified c.report-told.new.warnings c.report-told.result c.remove_link.ensures c.report-told.ensures

pub returns : goal.returns
returns c = unlink_full c.args.lanes.now c.args.i c.args.j c.args.linked c.args.modified.now c.args.warnings.now c.no_op_where-note.result c.pair_unless-n.result c.pair_unless-n.new.ids c.no_op_where-note.ensures c.pair_unless-n.ensures c.fits.result c.fits.ensures c.if-fits.false
