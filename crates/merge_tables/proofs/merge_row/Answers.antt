-- `merge_tables::merge_row` meets its contract. Assumes nothing.
use Rattle.merge_draw.proofs.Lanes.{comes-asks, merged-first, merged-other}
use Rattle.merge_tables.proofs.merge_row.Goals as goal

pub take_over-requires : goal.take_over-requires
take_over-requires c = comes-asks c.args.row.now c.args.first c.args.second c.args.taken c.args.successors.now c.requires.0 c.requires.1 c.relink_row.new.row c.relink_row.ensures

pub returns-then-id-first : goal.returns-then-id-first
returns-then-id-first c = merged-first c.args.row.now c.args.first c.args.second c.args.taken c.args.successors.now c.requires.0 c.requires.1 c.relink_row.new.row c.relink_row.ensures c.if-id-first.true c.take_over.new.row c.take_over.ensures

pub returns-else-id-first : goal.returns-else-id-first
returns-else-id-first c = merged-other c.args.row.now c.args.first c.args.second c.args.taken c.args.successors.now c.requires.0 c.requires.1 c.relink_row.new.row c.relink_row.ensures c.if-id-first.false
