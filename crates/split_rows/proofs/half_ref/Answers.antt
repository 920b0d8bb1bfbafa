-- `split_rows::half_ref` meets its contract: a boundary that is found has its row among the pieces. Assumes nothing.
use borrow.Author.Rules.{rules}
use native.Mathlib.Omega.{arith}
use Rattle.split_rows.proofs.Pieces.{piece-room, piece-taken, piece-whole}
use Rattle.split_rows.proofs.half_ref.Goals as goal

pub overflow_mul-result : goal.overflow_mul-result
overflow_mul-result c = let a = c.args in omega (arith, c.well_formed, piece-room a.pieces.now a.m a.boundary a.second a.reversed c.requires.0 c.find_row-found.result c.find_row-found.ensures c.in-Some.x c.in-Some.is)

pub overflow_add-result : goal.overflow_add-result
overflow_add-result c = let a = c.args in omega (arith, c.piece_word.ensures.1, piece-room a.pieces.now a.m a.boundary a.second a.reversed c.requires.0 c.find_row-found.result c.find_row-found.ensures c.in-Some.x c.in-Some.is)

pub offset_bounds-pieces-x : goal.offset_bounds-pieces-x
offset_bounds-pieces-x c = let a = c.args in omega (arith, c.piece_word.ensures.1, piece-room a.pieces.now a.m a.boundary a.second a.reversed c.requires.0 c.find_row-found.result c.find_row-found.ensures c.in-Some.x c.in-Some.is)

pub bounds-pieces-x : goal.bounds-pieces-x
bounds-pieces-x c = let a = c.args in omega (arith, c.piece_word.ensures.1, piece-room a.pieces.now a.m a.boundary a.second a.reversed c.requires.0 c.find_row-found.result c.find_row-found.ensures c.in-Some.x c.in-Some.is)

pub returns-in-Some : goal.returns-in-Some
returns-in-Some c = let a = c.args in piece-taken a.pieces.now a.m a.boundary a.second a.reversed c.requires.0 c.find_row-found.result c.find_row-found.ensures c.in-Some.x c.piece_word.result c.in-Some.is c.piece_word.ensures.0

pub returns-in-None : goal.returns-in-None
returns-in-None c = let a = c.args in piece-whole a.pieces.now a.m a.boundary a.second a.reversed c.requires.0 c.find_row-found.result c.find_row-found.ensures c.in-None.is
