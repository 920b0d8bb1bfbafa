-- `split_rows::piece_word` meets its contract: a half whose side is the reference's way takes the first piece. Assumes nothing.
use Rattle.split_rows.proofs.Pieces.{piece-first, piece-second}
use Rattle.split_rows.proofs.piece_word.Goals as goal

pub returns-then-second-reversed : goal.returns-then-second-reversed
returns-then-second-reversed c = piece-first c.args.second c.args.reversed c.if-second-reversed.true

pub returns : goal.returns
returns c = piece-second c.args.second c.args.reversed c.if-second-reversed.false
