-- `split_past::past_on` meets its contract: a line with no station is not passed. Assumes nothing.
use borrow.Author.Rules.{rules}
use Rattle.polyline.specs.Polyline.{points}
use Rattle.split_half.proofs.Centers.{past-nowhere, past_near}
use Rattle.split_past.proofs.past_on.Goals as goal

pub returns-in_default : goal.returns-in_default
returns-in_default c = past-nowhere (points c.args.line.now) c.args.station c.args.anchor c.nearest_point-found.result c.nearest_point-found.ensures c.in_default.is

pub returns : goal.returns
returns c = past_near (points c.args.line.now) c.args.station c.args.anchor c.nearest_point-found.result c.nearest_point-found.ensures c.in-Some.near c.in-Some.is
