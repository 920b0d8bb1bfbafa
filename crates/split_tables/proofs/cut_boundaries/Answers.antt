-- `split_tables::cut_boundaries` meets its contract: rows that point to a piece keep their ids and their number. Assumes nothing.
use Rattle.split_tables.proofs.Adding.{pointed-asks, both-cut}
use Rattle.split_tables.proofs.cut_boundaries.Goals as goal

pub add_rows-requires : goal.add_rows-requires
add_rows-requires c = let a = c.args in pointed-asks a.pieces.now a.m a.lines.now a.marks.now a.t.now c.requires c.point_rows.new.t c.point_rows.ensures c.point_rows.auto.t

pub returns : goal.returns
returns c = let a = c.args in both-cut a.pieces.now a.m a.lines.now a.marks.now a.t.now c.requires c.point_rows.new.t c.point_rows.ensures c.point_rows.auto.t c.add_rows.new.t c.add_rows.ensures
