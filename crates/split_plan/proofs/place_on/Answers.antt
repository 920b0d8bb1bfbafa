-- `split_plan::place_on` meets its contract: a fraction is tested and taken of the length, a station is taken as it is. Assumes nothing.
use borrow.Author.Rules.{rules}
use Rattle.polyline.specs.Polyline.{points}
use Rattle.split_plan.proofs.Leaves.{fraction-outside, fraction-inside, station-given}
use Rattle.split_plan.proofs.place_on.Goals as goal

pub returns-then-both : goal.returns-then-both
returns-then-both c = fraction-inside c.args.piece c.args.lane (points c.args.line.now) c.args.at c.in-Fraction.f c.in-Fraction.is c.both.result c.both.ensures c.if-both.true c.length.result c.length.ensures c.cut_at.result c.cut_at.ensures

pub returns-else-both : goal.returns-else-both
returns-else-both c = fraction-outside c.args.piece c.args.lane (points c.args.line.now) c.args.at c.in-Fraction.f c.in-Fraction.is c.both.result c.both.ensures c.if-both.false

pub returns-in-Station : goal.returns-in-Station
returns-in-Station c = station-given c.args.piece c.args.lane (points c.args.line.now) c.args.at c.in-Station.s c.in-Station.is c.cut_at-in-Station.result c.cut_at-in-Station.ensures
