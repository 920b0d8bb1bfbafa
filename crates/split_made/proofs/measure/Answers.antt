use Rattle.split_made.proofs.Parts.{measured-both}
use Rattle.split_lines.specs.Cut.{chosen_lines}
use Rattle.order.specs.Order.{column_of}
use mathlib.Core.Bool.{true, false}
use Rattle.split_made.proofs.measure.Goals as goal

pub returns : goal.returns
returns c = let s = c in measured-both s.args.point (chosen_lines s.args.coordinates.now (column_of 5 2 false) s.args.marks.now s.args.boundaries.now) (chosen_lines s.args.coordinates.now (column_of 52 7 true) s.args.seen.now s.args.lanes.now) s.args.reach c.measure-behind.result c.measure.result s.args.lines.now c.measure-behind.new.out s.args.centers.now c.measure.new.out c.measure-behind.ensures.0 c.measure-behind.ensures.1.0 c.measure.ensures.0 c.measure.ensures.1.0
