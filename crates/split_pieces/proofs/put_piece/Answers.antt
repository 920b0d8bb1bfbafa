-- `split_pieces::put_piece` meets its contract: three stores in a row. Assumes nothing.
use borrow.Author.Rules.{rules}
use native.Mathlib.Omega.{arith}
use lib.ListN.{length-set}
use Rattle.split_pieces.proofs.Listed.{put-shared, put-own}
use Rattle.split_pieces.proofs.put_piece.Goals as goal

pub bounds-pieces-at-then-beyond : goal.bounds-pieces-at-then-beyond
bounds-pieces-at-then-beyond c = simp length-set (omega (arith, c.requires.0))

pub overflow_add-pieces-then-beyond : goal.overflow_add-pieces-then-beyond
overflow_add-pieces-then-beyond c = let l = rw c.if-beyond.true at c.requires.1 in omega (arith, l)

pub bounds-pieces-at-then-beyond-2 : goal.bounds-pieces-at-then-beyond-2
bounds-pieces-at-then-beyond-2 c = simp length-set (omega (arith, c.requires.0))

pub overflow_add-result : goal.overflow_add-result
overflow_add-result c = let l = rw c.if-beyond.true at c.requires.1 in omega (arith, l)

pub returns-then-beyond : goal.returns-then-beyond
returns-then-beyond c = put-shared c.args.pieces.now c.args.m c.args.id c.args.next c.args.beyond c.requires.0 c.if-beyond.true

pub bounds-pieces-at-2 : goal.bounds-pieces-at-2
bounds-pieces-at-2 c = simp length-set (omega (arith, c.requires.0))

pub bounds-pieces-at-3 : goal.bounds-pieces-at-3
bounds-pieces-at-3 c = simp length-set (omega (arith, c.requires.0))

pub overflow_add-result-2 : goal.overflow_add-result-2
overflow_add-result-2 c = let l = rw c.if-beyond.false at c.requires.1 in omega (arith, l)

pub returns : goal.returns
returns c = put-own c.args.pieces.now c.args.m c.args.id c.args.next c.args.beyond c.requires.0 c.if-beyond.false
