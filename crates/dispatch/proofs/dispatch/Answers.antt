-- `dispatch::dispatch` meets its contract: what the edit of the arm makes is what the command comes to. Assumes nothing.
use borrow.Author.Rules.{rules}
use Rattle.step.specs.Step.{given}
use Rattle.dispatch.proofs.Applies.{made, made_as}
use Rattle.dispatch.proofs.dispatch.Goals as goal

pub returns-in-SplitLane-clause-made : goal.returns-in-SplitLane-clause-made
returns-in-SplitLane-clause-made c = made_as c.args.tolerance (given c.args.counter c.args.map.now c.args.lists.now) c.args.command _ _ c.in-SplitLane.is c.split_lane.ensures.made

pub returns-in-MergeLanes-clause-made : goal.returns-in-MergeLanes-clause-made
returns-in-MergeLanes-clause-made c = made_as c.args.tolerance (given c.args.counter c.args.map.now c.args.lists.now) c.args.command _ _ c.in-MergeLanes.is c.merge_lanes.ensures.made

pub returns-in-ConnectLanes-clause-made : goal.returns-in-ConnectLanes-clause-made
returns-in-ConnectLanes-clause-made c = made c.args.tolerance (given c.args.counter c.args.map.now c.args.lists.now) c.args.command _ _ c.edit_links.result c.in-ConnectLanes.is c.edit_links.ensures.made

pub returns-in-DisconnectLanes-clause-made : goal.returns-in-DisconnectLanes-clause-made
returns-in-DisconnectLanes-clause-made c = made c.args.tolerance (given c.args.counter c.args.map.now c.args.lists.now) c.args.command _ _ c.edit_links-in-DisconnectLanes.result c.in-DisconnectLanes.is c.edit_links-in-DisconnectLanes.ensures.made

pub returns-in-SetNeighbor-clause-made : goal.returns-in-SetNeighbor-clause-made
returns-in-SetNeighbor-clause-made c = made c.args.tolerance (given c.args.counter c.args.map.now c.args.lists.now) c.args.command _ _ c.edit_links-in-SetNeighbor.result c.in-SetNeighbor.is c.edit_links-in-SetNeighbor.ensures.made

pub returns-in-RemoveLane-clause-made : goal.returns-in-RemoveLane-clause-made
returns-in-RemoveLane-clause-made c = made c.args.tolerance (given c.args.counter c.args.map.now c.args.lists.now) c.args.command _ _ c.remove.result c.in-RemoveLane.is c.remove.ensures.made
