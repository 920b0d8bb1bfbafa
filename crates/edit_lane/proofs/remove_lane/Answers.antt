-- `edit_lane::remove_lane` meets its contract. Assumes nothing.
use native.Mathlib.Omega.{arith}
use Rattle.tables.specs.View.{Tables}
use Rattle.step.specs.Step.{Lent, removal_given}
use Rattle.lent.specs.Lent.{removal_tables}
use Rattle.sound_facts.proofs.Found.{lanes_are_sorted, found, missing}
use Rattle.edit_lane.proofs.Calls.{may-remove, absent, ends-with}
use Rattle.edit_lane.proofs.remove_lane.Goals as goal
use Rattle.edit_lane.proofs.remove_lane.Goals.{Start}

-- what is lent
abbrev held : Start → Tables
held s = removal_tables s.args.map.now

abbrev lent : Start → Lent
lent s = removal_given s.args.counter s.args.map.now s.args.lists.now

pub lane-found-requires : goal.lane-found-requires
lane-found-requires c = lanes_are_sorted c.args.counter (held (goal.at.lane-found-requires c).Start) c.requires

pub returns-in_default-clause-made : goal.returns-in_default-clause-made
returns-in_default-clause-made c = let s = (goal.at.returns-in_default-clause-made c).Start in absent s.args.tolerance (lent s) s.requires s.args.lane (missing s.args.map.now.lanes.now s.args.lane c.lane-found.result c.lane-found.ensures c.in_default.is)

pub remove-requires : goal.remove-requires
remove-requires c = let s = (goal.at.remove-requires c).Start in may-remove s.args.counter (held s) s.requires s.args.lane c.in-Some.i (found s.args.map.now.lanes.now s.args.lane c.in-Some.i c.lane-found.result c.lane-found.ensures c.in-Some.is)

pub returns-clause-made : goal.returns-clause-made
returns-clause-made c =
    let s = (goal.at.returns-clause-made c).Start in
    let n = c.remove.new in
    ends-with s.args.tolerance (lent s) s.requires s.args.lane (omega (arith, s.well_formed.0.1)) c.in-Some.i (found s.args.map.now.lanes.now s.args.lane c.in-Some.i c.lane-found.result c.lane-found.ensures c.in-Some.is)
    (removal_tables n.map) n.lists.created.now n.lists.modified.now n.lists.deleted.now n.lists.warnings.now c.remove.result c.remove.ensures.made (c.remove.ensures.same.stop_lines, c.remove.ensures.same.crosswalks, c.remove.ensures.same.coordinates, c.remove.ensures.same_lists.created)
