-- `edit::links::gapped` meets its contract. Assumes nothing.
use borrow.Author.Rules.{rules}
use Rattle.lookup.specs.Lookup.{drawn}
use Rattle.tables.specs.View.{lane_of}
use Rattle.row_tests.specs.Returned.{lane_at}
use Rattle.relink.proofs.Gap.{gap-none, gap-left, gap-right}
use Rattle.gaps.proofs.gapped.Goals as goal

pub returns-then-apart : goal.returns-then-apart
returns-then-apart c = gap-left c.args.tolerance (drawn c.args.coordinates.now c.args.boundaries.now) (lane_of c.args.coordinates.now (lane_at c.args.lanes.now c.args.i)) (lane_of c.args.coordinates.now (lane_at c.args.lanes.now c.args.j)) c.oriented_last-fl.result c.oriented_last-fr.result c.oriented_first-tl.result c.oriented_first-tr.result c.oriented_last-fl.ensures c.oriented_last-fr.ensures c.oriented_first-tl.ensures c.oriented_first-tr.ensures c.is_some.result c.is_some-2.result c.is_some-3.result c.is_some-4.result c.both.result c.both-2.result c.both-ends.result c.is_some.ensures c.is_some-2.ensures c.is_some-3.ensures c.is_some-4.ensures c.both.ensures c.both-2.ensures c.both-ends.ensures c.if-ends.true c.apart.result c.apart.ensures c.if-apart.true

pub returns-then-ends : goal.returns-then-ends
returns-then-ends c = gap-right c.args.tolerance (drawn c.args.coordinates.now c.args.boundaries.now) (lane_of c.args.coordinates.now (lane_at c.args.lanes.now c.args.i)) (lane_of c.args.coordinates.now (lane_at c.args.lanes.now c.args.j)) c.oriented_last-fl.result c.oriented_last-fr.result c.oriented_first-tl.result c.oriented_first-tr.result c.oriented_last-fl.ensures c.oriented_last-fr.ensures c.oriented_first-tl.ensures c.oriented_first-tr.ensures c.is_some.result c.is_some-2.result c.is_some-3.result c.is_some-4.result c.both.result c.both-2.result c.both-ends.result c.is_some.ensures c.is_some-2.ensures c.is_some-3.ensures c.is_some-4.ensures c.both.ensures c.both-2.ensures c.both-ends.ensures c.if-ends.true c.apart.result c.apart-then-ends.result c.apart.ensures c.if-apart.false c.apart-then-ends.ensures

pub returns : goal.returns
returns c = gap-none c.args.tolerance (drawn c.args.coordinates.now c.args.boundaries.now) (lane_of c.args.coordinates.now (lane_at c.args.lanes.now c.args.i)) (lane_of c.args.coordinates.now (lane_at c.args.lanes.now c.args.j)) c.oriented_last-fl.result c.oriented_last-fr.result c.oriented_first-tl.result c.oriented_first-tr.result c.oriented_last-fl.ensures c.oriented_last-fr.ensures c.oriented_first-tl.ensures c.oriented_first-tr.ensures c.is_some.result c.is_some-2.result c.is_some-3.result c.is_some-4.result c.both.result c.both-2.result c.both-ends.result c.is_some.ensures c.is_some-2.ensures c.is_some-3.ensures c.is_some-4.ensures c.both.ensures c.both-2.ensures c.both-ends.ensures c.if-ends.false
