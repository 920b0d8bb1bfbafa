-- `split_lines::row_sizes` meets its contract: of a row with a line, and of one without. Assumes nothing.
use borrow.Author.Rules.{rules}
use Rattle.split_lines.proofs.Pieces.{none-sizes, row-without, row-may, row-with, row-few}
use Rattle.split_lines.proofs.row_sizes.Goals as goal

pub line_of-requires : goal.line_of-requires
line_of-requires c = let a = c.args in row-may a.coordinates.now a.offset a.marked a.row a.t.now c.has_line.result c.has_line.ensures c.requires c.if-has_line.true

pub line_sizes-requires : goal.line_sizes-requires
line_sizes-requires c = let a = c.args in row-few a.coordinates.now a.offset a.marked a.row a.t.now c.has_line.result c.has_line.ensures c.requires c.if-has_line.true c.line_of.result.now c.line_of.ensures

pub returns-then-has_line : goal.returns-then-has_line
returns-then-has_line c = let a = c.args in rw (row-with a.coordinates.now a.offset a.marked a.row a.t.now c.has_line.result c.has_line.ensures c.requires c.if-has_line.true c.line_of.result.now c.line_of.ensures) c.line_sizes.ensures

pub returns : goal.returns
returns c = let a = c.args in rw (row-without a.coordinates.now a.offset a.marked a.row a.t.now c.has_line.result c.has_line.ensures c.if-has_line.false) (none-sizes a.point)
