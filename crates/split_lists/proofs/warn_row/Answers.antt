-- `split_lists::warn_row` meets its contract: left before right. Assumes nothing.
use Rattle.split_lists.proofs.Dropped.{left-room, right-room, row-noted}
use Rattle.split_lists.proofs.warn_row.Goals as goal

pub note-behind-requires : goal.note-behind-requires
note-behind-requires c = left-room c.args.cut.now c.args.lanes.now c.args.next c.args.second c.args.i c.slot_notice-left.result c.slot_notice-right.result c.slot_notice-left.ensures c.slot_notice-right.ensures c.args.warnings.now c.args.at c.requires.1.1

pub note-requires : goal.note-requires
note-requires c = right-room c.args.cut.now c.args.lanes.now c.args.next c.args.second c.args.i c.slot_notice-left.result c.slot_notice-right.result c.slot_notice-left.ensures c.slot_notice-right.ensures c.args.warnings.now c.args.at c.requires.1.1 c.note-behind.result c.note-behind.new.warnings c.note-behind.ensures.0 c.note-behind.ensures.1

pub returns : goal.returns
returns c = row-noted c.args.cut.now c.args.lanes.now c.args.next c.args.second c.args.i c.slot_notice-left.result c.slot_notice-right.result c.slot_notice-left.ensures c.slot_notice-right.ensures c.args.warnings.now c.args.at c.requires.1.1 c.note-behind.result c.note-behind.new.warnings c.note-behind.ensures.0 c.note-behind.ensures.1 c.note.result c.note.new.warnings c.note.ensures.0 c.note.ensures.1
