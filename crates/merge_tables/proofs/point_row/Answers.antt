-- `merge_tables::point_row` meets its contract: two stores, or none. Assumes nothing.
use Rattle.merge_draw.proofs.Boundaries.{point-on, point-off}
use Rattle.merge_tables.proofs.point_row.Goals as goal

pub returns-then-row-id : goal.returns-then-row-id
returns-then-row-id c = point-on c.args.row.now c.args.id c.args.start c.args.size c.requires c.if-row-id.true

pub returns-else-row-id : goal.returns-else-row-id
returns-else-row-id c = point-off c.args.row.now c.args.id c.args.start c.args.size c.requires c.if-row-id.false
