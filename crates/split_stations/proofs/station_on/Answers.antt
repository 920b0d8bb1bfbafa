-- `split_stations::station_on` meets its contract: by the nearest point, and by whether the lane is the one that is split. Assumes nothing.
use borrow.Author.Rules.{rules}
use mathlib.Core.Path.{◌≡◌, ◌∙◌}
use mathlib.Core.Bool.{cond}
use mathlib.Core.Logic.{⊎_elim}
use lib.Dec.{eqb}
use borrow.Author.Tests.{eq-eqb, ne_eqb}
use Rattle.polyline.specs.Polyline.{points}
use Rattle.split_plan.proofs.Leaves.{station_pointless, station-there, station-outside}
use Rattle.split_stations.proofs.station_on.Goals as goal
use Rattle.split_stations.proofs.station_on.Lts as lts
use Rattle.split_stations.proofs.station_on.Reads as reads
use Rattle.split_stations.proofs.station_on.Tie as tie

abbrev AtJoinedLaneOwn : Type 0
AtJoinedLaneOwn = lts.Joined1 tie.the-claims reads.Pre reads.Post

-- the own lane's station is the given one
chosen : (c : AtJoinedLaneOwn) → c.if-lane-own.station ≡ cond (eqb c.args.lane c.args.own) c.args.cut.station c.in-Some.near.station
chosen c = elim c.if-lane-own.branch [
  | goal.then-lane-own s ↦ s.station-is ∙ rw (eq-eqb c.args.lane c.args.own s.if-lane-own.true)
  | goal.else-lane-own s ↦ s.station-is ∙ rw (ne_eqb c.args.lane c.args.own s.if-lane-own.false)
]

pub returns-in_default : goal.returns-in_default
returns-in_default c = station_pointless c.args.piece c.args.own c.args.lane c.args.cut (points c.args.line.now) c.nearest_point-found.result c.nearest_point-found.ensures c.in_default.is

pub returns-then-cuttable : goal.returns-then-cuttable
returns-then-cuttable c = station-there c.args.piece c.args.own c.args.lane c.args.cut (points c.args.line.now) c.nearest_point-found.result c.nearest_point-found.ensures c.in-Some.near c.in-Some.is c.if-lane-own.station (chosen c.before.before.before) c.cuttable.result c.cuttable.ensures c.if-cuttable.true

pub returns : goal.returns
returns c = station-outside c.args.piece c.args.own c.args.lane c.args.cut (points c.args.line.now) c.nearest_point-found.result c.nearest_point-found.ensures c.in-Some.near c.in-Some.is c.if-lane-own.station (chosen c.before.before.before) c.cuttable.result c.cuttable.ensures c.if-cuttable.false
