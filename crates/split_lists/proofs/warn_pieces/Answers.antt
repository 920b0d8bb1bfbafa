-- `split_lists::warn_pieces` meets its contract. The invariant: the warnings of the first j pieces stand in the first rows. Assumes nothing.
use native.Mathlib.Omega.{arith}
use Rattle.split_lists.specs.Changes.{pieces_issues}
use Rattle.split_lists.proofs.Noted.{none-noted, piece-at, piece-room, piece-noted, pieces-done}
use Rattle.split_lists.proofs.warn_pieces.Goals as goal

pub loop-j-init : goal.loop-j-init
unfolding pieces_issues
loop-j-init c = (omega arith, none-noted c.args.warnings.now 0)

pub piece_notice-requires : goal.piece_notice-requires
piece_notice-requires c = piece-at c.args.m c.loop-j.j c.loop-j-test.true (omega (arith, c.requires.0))

pub note-at-requires : goal.note-at-requires
note-at-requires c = piece-room c.args.pieces.now c.args.warnings.now c.args.m c.requires.1 c.loop-j.j c.loop-j.warnings c.loop-j.at c.loop-j.invariant.1 c.loop-j-test.true c.piece_notice.result c.piece_notice.ensures

pub loop-j-preserved : goal.loop-j-preserved
loop-j-preserved c = (omega (arith, c.loop-j-test.true), piece-noted c.args.pieces.now c.args.warnings.now c.args.m c.requires.1 c.loop-j.j c.loop-j.warnings c.loop-j.at c.loop-j.invariant.1 c.loop-j-test.true c.piece_notice.result c.piece_notice.ensures c.note-at.result c.note-at.new.warnings c.note-at.ensures.0 c.note-at.ensures.1)

pub shape_of-warnings : goal.shape_of-warnings
shape_of-warnings c = (pieces-done c.args.pieces.now c.args.warnings.now c.args.m c.requires.1 c.loop-j.j c.loop-j.warnings c.loop-j.at c.loop-j.invariant.1 c.loop-j.invariant.0 c.loop-j-test.false).1

pub returns : goal.returns
returns c = (pieces-done c.args.pieces.now c.args.warnings.now c.args.m c.requires.1 c.loop-j.j c.loop-j.warnings c.loop-j.at c.loop-j.invariant.1 c.loop-j.invariant.0 c.loop-j-test.false).0
