-- `split_lists::count_warnings` meets its contract. Assumes nothing.
use native.Mathlib.Omega.{arith}
use lib.ListN.{length-append}
use Rattle.split_plan.specs.Placing.{marked_rows}
use Rattle.split_lists.specs.Changes.{pieces_issues, rows_dropped}
use Rattle.split_lists.proofs.count_warnings.Goals as goal

pub returns : goal.returns
returns c = omega (arith, c.count_pieces.ensures.0, c.count_dropped.ensures.0, length-append (pieces_issues c.args.pieces.now 0 c.args.m) (rows_dropped c.args.cut.now c.args.next c.args.next (marked_rows c.args.seen.now c.args.lanes.now)))
