-- `split_tables::point_row` meets its contract: two stores where the boundary's first piece keeps its id. Assumes nothing.
use native.Mathlib.Omega.{arith}
use lib.ListN.{length-set}
use Rattle.split_tables.proofs.Pieces.{piece-within, point-on, point-off, point-none}
use Rattle.split_tables.proofs.point_row.Goals as goal

pub overflow_mul-at : goal.overflow_mul-at
overflow_mul-at c = let a = c.args in omega (arith, c.requires.1.0, c.requires.1.1.1, piece-within a.row.now a.pieces.now a.m a.lines.now c.requires.0 c.find_row-found.result c.find_row-found.ensures c.in-Some.j c.in-Some.is)

pub overflow_add-at : goal.overflow_add-at
overflow_add-at c = let a = c.args in omega (arith, c.requires.1.0, c.requires.1.1.1, piece-within a.row.now a.pieces.now a.m a.lines.now c.requires.0 c.find_row-found.result c.find_row-found.ensures c.in-Some.j c.in-Some.is)

pub offset_bounds-pieces-at : goal.offset_bounds-pieces-at
offset_bounds-pieces-at c = let a = c.args in omega (arith, c.requires.1.0, c.requires.1.1.1, piece-within a.row.now a.pieces.now a.m a.lines.now c.requires.0 c.find_row-found.result c.find_row-found.ensures c.in-Some.j c.in-Some.is)

pub bounds-pieces-at : goal.bounds-pieces-at
bounds-pieces-at c = let a = c.args in omega (arith, c.requires.1.0, c.requires.1.1.1, piece-within a.row.now a.pieces.now a.m a.lines.now c.requires.0 c.find_row-found.result c.find_row-found.ensures c.in-Some.j c.in-Some.is)

pub offset_bounds-lines-at : goal.offset_bounds-lines-at
offset_bounds-lines-at c = let a = c.args in omega (arith, c.requires.1.0, c.requires.1.1.1, piece-within a.row.now a.pieces.now a.m a.lines.now c.requires.0 c.find_row-found.result c.find_row-found.ensures c.in-Some.j c.in-Some.is)

pub bounds-lines-at : goal.bounds-lines-at
bounds-lines-at c = let a = c.args in omega (arith, c.requires.1.0, c.requires.1.1.1, piece-within a.row.now a.pieces.now a.m a.lines.now c.requires.0 c.find_row-found.result c.find_row-found.ensures c.in-Some.j c.in-Some.is)

pub overflow_add-row : goal.overflow_add-row
overflow_add-row c = let a = c.args in omega (arith, c.requires.1.0, c.requires.1.1.1, piece-within a.row.now a.pieces.now a.m a.lines.now c.requires.0 c.find_row-found.result c.find_row-found.ensures c.in-Some.j c.in-Some.is)

pub offset_bounds-lines-at-then-pieces-at : goal.offset_bounds-lines-at-then-pieces-at
offset_bounds-lines-at-then-pieces-at c = let a = c.args in omega (arith, c.requires.1.0, c.requires.1.1.1, piece-within a.row.now a.pieces.now a.m a.lines.now c.requires.0 c.find_row-found.result c.find_row-found.ensures c.in-Some.j c.in-Some.is)

pub bounds-lines-at-then-pieces-at : goal.bounds-lines-at-then-pieces-at
bounds-lines-at-then-pieces-at c = let a = c.args in omega (arith, c.requires.1.0, c.requires.1.1.1, piece-within a.row.now a.pieces.now a.m a.lines.now c.requires.0 c.find_row-found.result c.find_row-found.ensures c.in-Some.j c.in-Some.is)

pub bounds-row-3 : goal.bounds-row-3
bounds-row-3 c = simp length-set (omega (arith, c.requires.0))

pub returns-then-pieces-at : goal.returns-then-pieces-at
returns-then-pieces-at c = let a = c.args in point-on a.row.now a.pieces.now a.m a.lines.now c.requires.0 c.find_row-found.result c.find_row-found.ensures c.in-Some.j c.in-Some.is c.if-pieces-at.true

pub returns-else-pieces-at : goal.returns-else-pieces-at
returns-else-pieces-at c = let a = c.args in point-off a.row.now a.pieces.now a.m a.lines.now c.requires.0 c.find_row-found.result c.find_row-found.ensures c.in-Some.j c.in-Some.is c.if-pieces-at.false

pub returns-in-None : goal.returns-in-None
returns-in-None c = let a = c.args in point-none a.row.now a.pieces.now a.m a.lines.now c.requires.0 c.find_row-found.result c.find_row-found.ensures c.in-None.is
