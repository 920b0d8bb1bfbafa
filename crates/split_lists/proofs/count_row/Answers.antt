-- `split_lists::count_row` meets its contract: one warning a slot at most. Assumes nothing.
use native.Mathlib.Omega.{arith}
use Rattle.split_lists.proofs.Dropped.{row-counted}
use Rattle.split_lists.proofs.count_row.Goals as goal

pub overflow_add-result : goal.overflow_add-result
overflow_add-result c = omega (arith, (row-counted c.args.cut.now c.args.lanes.now c.args.next c.args.second c.args.i c.slot_notice-left.result c.slot_notice-right.result c.slot_notice-left.ensures c.slot_notice-right.ensures c.notice_count.result c.notice_count-2.result c.notice_count.ensures c.notice_count-2.ensures).1)

pub returns : goal.returns
returns c = row-counted c.args.cut.now c.args.lanes.now c.args.next c.args.second c.args.i c.slot_notice-left.result c.slot_notice-right.result c.slot_notice-left.ensures c.slot_notice-right.ensures c.notice_count.result c.notice_count-2.result c.notice_count.ensures c.notice_count-2.ensures
