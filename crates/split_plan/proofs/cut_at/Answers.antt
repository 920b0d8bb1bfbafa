-- `split_plan::cut_at` meets its contract: by whether the line can be cut there, and has a point. Assumes nothing.
use borrow.Author.Rules.{rules}
use mathlib.Core.Path.{ap}
use mathlib.Core.Bool.{not}
use Rattle.polyline.specs.Polyline.{points}
use Rattle.split_plan.proofs.Leaves.{cut-outside, cut_pointless, cut-found}
use Rattle.split_plan.proofs.cut_at.Goals as goal

pub returns-then-not-cuttable : goal.returns-then-not-cuttable
returns-then-not-cuttable c = cut-outside c.args.piece c.args.lane (points c.args.line.now) c.args.station c.cuttable.result c.cuttable.ensures (ap not c.if-not-cuttable.true)

pub returns-in_default : goal.returns-in_default
returns-in_default c = cut_pointless c.args.piece c.args.lane (points c.args.line.now) c.args.station c.cuttable.result c.cuttable.ensures (ap not c.if-not-cuttable.false) c.point_at-found.result c.point_at-found.ensures c.in_default.is

pub returns : goal.returns
returns c = cut-found c.args.piece c.args.lane (points c.args.line.now) c.args.station c.cuttable.result c.cuttable.ensures (ap not c.if-not-cuttable.false) c.point_at-found.result c.point_at-found.ensures c.in-Some.p c.xy.result c.in-Some.is c.xy.ensures
