-- `split_lists::warn` meets its contract: the neighbours behind the pieces. Assumes nothing.
use Rattle.split_plan.specs.Placing.{marked_rows}
use Rattle.split_lists.specs.Changes.{rows_dropped}
use Rattle.split_lists.proofs.Noted.{pieces-fit, others-fit, all-warned}
use Rattle.split_lists.proofs.warn.Goals as goal

pub warn_pieces-at-requires : goal.warn_pieces-at-requires
warn_pieces-at-requires c = (c.requires.0, pieces-fit c.args.pieces.now c.args.m (rows_dropped c.args.cut.now c.args.next c.args.next (marked_rows c.args.seen.now c.args.lanes.now)) c.args.warnings.now c.requires.1.1)

pub warn_dropped-requires : goal.warn_dropped-requires
warn_dropped-requires c = (c.requires.1.0, others-fit c.args.pieces.now c.args.m (rows_dropped c.args.cut.now c.args.next c.args.next (marked_rows c.args.seen.now c.args.lanes.now)) c.args.warnings.now c.requires.1.1 c.warn_pieces-at.result c.warn_pieces-at.new.warnings c.warn_pieces-at.ensures.0 c.warn_pieces-at.ensures.1)

pub returns : goal.returns
returns c = all-warned c.args.pieces.now c.args.m (rows_dropped c.args.cut.now c.args.next c.args.next (marked_rows c.args.seen.now c.args.lanes.now)) c.args.warnings.now c.requires.1.1 c.warn_pieces-at.result c.warn_pieces-at.new.warnings c.warn_pieces-at.ensures.0 c.warn_pieces-at.ensures.1 c.warn_dropped.new.warnings c.warn_dropped.ensures
