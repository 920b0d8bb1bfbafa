-- `split_lists::piece_notice` meets its contract. Assumes nothing.
use Rattle.split_lists.proofs.Noted.{piece-kept, piece-new}
use Rattle.split_lists.proofs.piece_notice.Goals as goal

pub returns-then-first-id : goal.returns-then-first-id
returns-then-first-id c = piece-kept c.args.pieces.now c.args.j c.if-first-id.true

pub returns : goal.returns
returns c = piece-new c.args.pieces.now c.args.j c.if-first-id.false
