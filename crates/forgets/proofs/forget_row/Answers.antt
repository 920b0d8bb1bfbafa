-- `naming::forget_row` meets its contract: by the table, what the row's own change makes. Assumes nothing.
use borrow.Author.Rules.{rules}
use Rattle.mentions.proofs.Tests.{row-lane, row_road, row_junction, row-rule, row-orphan}
use Rattle.mentions.proofs.Going.{forgets-lane, forgets_road, forgets_junction, forgets-rule, forgets-orphan}
use Rattle.forgets.proofs.forget_row.Goals as goal

pub forget_lane-requires : goal.forget_lane-requires
forget_lane-requires c = row-lane c.args.rows c.args.row.now c.requires c.in-Lanes.is

pub forget-requires : goal.forget-requires
forget-requires c = row_road c.args.rows c.args.row.now c.requires c.in-Roads.is

pub forget-requires-in-Junctions : goal.forget-requires-in-Junctions
forget-requires-in-Junctions c = row_junction c.args.rows c.args.row.now c.requires c.in-Junctions.is

pub forget_rule-requires : goal.forget_rule-requires
forget_rule-requires c = row-rule c.args.rows c.args.row.now c.requires c.in-Rules.is

pub forget_rule-requires-in-Orphans : goal.forget_rule-requires-in-Orphans
forget_rule-requires-in-Orphans c = row-orphan c.args.rows c.args.row.now c.requires c.in-Orphans.is

pub returns-in-Lanes : goal.returns-in-Lanes
returns-in-Lanes c = forgets-lane c.args.rows c.args.row.now c.forget_lane.new.row c.args.id c.in-Lanes.is c.forget_lane.ensures

pub returns-in-Roads : goal.returns-in-Roads
returns-in-Roads c = forgets_road c.args.rows c.args.row.now c.forget.new.row c.args.id c.in-Roads.is c.forget.ensures

pub returns-in-Junctions : goal.returns-in-Junctions
returns-in-Junctions c = forgets_junction c.args.rows c.args.row.now c.forget-in-Junctions.new.row c.args.id c.in-Junctions.is c.forget-in-Junctions.ensures

pub returns-in-Rules : goal.returns-in-Rules
returns-in-Rules c = forgets-rule c.args.rows c.args.row.now c.forget_rule.new.row c.args.id c.in-Rules.is c.forget_rule.ensures

pub returns-in-Orphans : goal.returns-in-Orphans
returns-in-Orphans c = forgets-orphan c.args.rows c.args.row.now c.forget_rule-in-Orphans.new.row c.args.id c.in-Orphans.is c.forget_rule-in-Orphans.ensures
