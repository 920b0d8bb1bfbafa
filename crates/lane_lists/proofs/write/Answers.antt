-- `lane_lists::write` meets its contract. Assumes nothing.
use borrow.Author.Rules.{rules}
use Rattle.unused.proofs.Staying.{five-left}
use Rattle.lane_lists.proofs.write.Goals as goal

pub returns : goal.returns
returns c = five-left c.drop_lane.ensures c.keep_boundaries.ensures c.forget.ensures c.forget-2.ensures c.forget-3.ensures
