-- `split_arrays::relay` meets its contract, by either array. Assumes nothing.
use mathlib.Core.Path.{refl, sym, ◌∙◌}
use native.Mathlib.Omega.{arith}
use lib.ListN.{length}
use Rattle.lent.specs.Lent.{lines_tables}
use Rattle.split_relay.specs.Given.{cutting_by}
use Rattle.split_relay.proofs.Whole.{few-lanes, few-points, small-relaid, large-relaid}
use Rattle.split_arrays.proofs.relay.Goals as goal

pub relay_small-requires : goal.relay_small-requires
relay_small-requires c = (c.requires.0, omega (arith, c.requires.1, few-points (length c.args.cuts.cut.now) c.args.points (sym c.both.ensures ∙ c.if-both.true)))

pub returns-then-both-clause-made : goal.returns-then-both-clause-made
returns-then-both-clause-made c =
    let a = c.args in
    let n = length a.cuts.cut.now in
    let h = (sym c.both.ensures ∙ c.if-both.true) in
    small-relaid (cutting_by a.cuts) (lines_tables a.lines.now) (lines_tables c.relay_small.new.lines) 6144 c.relay_small.ensures.made n a.points refl (few-lanes n a.points h) (few-points n a.points h)

pub relay_large-requires : goal.relay_large-requires
relay_large-requires c = c.requires.0

pub returns-clause-made : goal.returns-clause-made
returns-clause-made c =
    let a = c.args in
    large-relaid (cutting_by a.cuts) (lines_tables a.lines.now) (lines_tables c.relay_large.new.lines) 196608 c.relay_large.ensures.made (length a.cuts.cut.now) a.points refl (sym c.both.ensures ∙ c.if-both.false)
