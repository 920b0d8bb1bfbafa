-- `naming::names_lane` meets its contract: by the table, what the row's own test says. Assumes nothing.
use borrow.Author.Rules.{rules}
use Rattle.mentions.proofs.Tests.{row-lane, row_road, row_junction, row-rule, row-orphan}
use Rattle.mentions.proofs.Tests.{names-lane, names_road, names_junction, names-rule, names-orphan}
use Rattle.mentions.proofs.names_lane.Goals as goal

pub lane_names-requires : goal.lane_names-requires
lane_names-requires c = row-lane c.args.rows c.args.row.now c.requires c.in-Lanes.is

pub lists_lane-requires : goal.lists_lane-requires
lists_lane-requires c = row_road c.args.rows c.args.row.now c.requires c.in-Roads.is

pub lists_lane-requires-in-Junctions : goal.lists_lane-requires-in-Junctions
lists_lane-requires-in-Junctions c = row_junction c.args.rows c.args.row.now c.requires c.in-Junctions.is

pub rule_names-requires : goal.rule_names-requires
rule_names-requires c = row-rule c.args.rows c.args.row.now c.requires c.in-Rules.is

pub orphaned-requires : goal.orphaned-requires
orphaned-requires c = row-orphan c.args.rows c.args.row.now c.requires c.in-Orphans.is

pub returns-in-Lanes : goal.returns-in-Lanes
returns-in-Lanes c = names-lane c.args.rows c.args.row.now c.args.id c.lane_names.result c.in-Lanes.is c.lane_names.ensures

pub returns-in-Roads : goal.returns-in-Roads
returns-in-Roads c = names_road c.args.rows c.args.row.now c.args.id c.lists_lane.result c.in-Roads.is c.lists_lane.ensures

pub returns-in-Junctions : goal.returns-in-Junctions
returns-in-Junctions c = names_junction c.args.rows c.args.row.now c.args.id c.lists_lane-in-Junctions.result c.in-Junctions.is c.lists_lane-in-Junctions.ensures

pub returns-in-Rules : goal.returns-in-Rules
returns-in-Rules c = names-rule c.args.rows c.args.row.now c.args.id c.rule_names.result c.in-Rules.is c.rule_names.ensures

pub returns-in-Orphans : goal.returns-in-Orphans
returns-in-Orphans c = names-orphan c.args.rows c.args.row.now c.args.id c.orphaned.result c.in-Orphans.is c.orphaned.ensures
