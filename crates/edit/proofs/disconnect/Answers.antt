-- `edit::disconnect` meets its contract. Assumes nothing.
use native.Mathlib.Omega.{arith}
use Rattle.tables.specs.View.{Tables}
use Rattle.step.specs.Step.{Lent, relink_given}
use Rattle.lent.specs.Lent.{relink_tables}
use Rattle.edit.proofs.Connects.{disconnect-first-absent, disconnect-second-absent}
use Rattle.sound_facts.proofs.Found.{found, missing, lanes_are_sorted, leads-may}
use Rattle.edit.proofs.Ends.{link-may, disconnected}
use Rattle.edit.proofs.disconnect.Goals as goal
use Rattle.edit.proofs.disconnect.Goals.{Start}

-- what is lent
abbrev held : Start → Tables
held s = relink_tables s.args.map.now

abbrev lent : Start → Lent
lent s = relink_given s.args.counter s.args.map.now s.args.lists.now

pub lane-found-requires : goal.lane-found-requires
lane-found-requires c = lanes_are_sorted c.args.counter (held (goal.at.lane-found-requires c).Start) c.requires

pub returns-in_default-clause-made : goal.returns-in_default-clause-made
returns-in_default-clause-made c = let s = (goal.at.returns-in_default-clause-made c).Start in disconnect-first-absent s.args.tolerance (lent s) s.requires (omega (arith, s.well_formed.0.1)) s.args.from s.args.to (missing s.args.map.now.lanes.now s.args.from c.lane-found.result c.lane-found.ensures c.in_default.is)

pub lane-other-requires : goal.lane-other-requires
lane-other-requires c = lanes_are_sorted c.args.counter (held (goal.at.lane-other-requires c).Start) c.requires

pub returns-in_default-other-clause-made : goal.returns-in_default-other-clause-made
returns-in_default-other-clause-made c = let s = (goal.at.returns-in_default-other-clause-made c).Start in disconnect-second-absent s.args.tolerance (lent s) s.requires (omega (arith, s.well_formed.0.1)) s.args.from s.args.to c.in-Some.i (found s.args.map.now.lanes.now s.args.from c.in-Some.i c.lane-found.result c.lane-found.ensures c.in-Some.is) (missing s.args.map.now.lanes.now s.args.to c.lane-other.result c.lane-other.ensures c.in_default-other.is)

pub leads-linked-requires : goal.leads-linked-requires
leads-linked-requires c = let s = (goal.at.leads-linked-requires c).Start in leads-may s.args.counter (held s) s.requires s.args.from c.in-Some.i (found s.args.map.now.lanes.now s.args.from c.in-Some.i c.lane-found.result c.lane-found.ensures c.in-Some.is)

pub unlink-requires : goal.unlink-requires
unlink-requires c = let s = (goal.at.unlink-requires c).Start in link-may s.args.counter (held s) s.requires s.args.from s.args.to c.in-Some.i c.in-Some-other.j (found s.args.map.now.lanes.now s.args.from c.in-Some.i c.lane-found.result c.lane-found.ensures c.in-Some.is) (found s.args.map.now.lanes.now s.args.to c.in-Some-other.j c.lane-other.result c.lane-other.ensures c.in-Some-other.is) c.leads-linked.result c.leads-linked.ensures

pub returns-clause-made : goal.returns-clause-made
returns-clause-made c = let s = (goal.at.returns-clause-made c).Start in disconnected s.args.tolerance (lent s) s.requires (omega (arith, s.well_formed.0.1)) s.args.from c.in-Some.i (found s.args.map.now.lanes.now s.args.from c.in-Some.i c.lane-found.result c.lane-found.ensures c.in-Some.is) s.args.to c.in-Some-other.j (found s.args.map.now.lanes.now s.args.to c.in-Some-other.j c.lane-other.result c.lane-other.ensures c.in-Some-other.is) c.unlink.new.lanes c.unlink.new.modified c.unlink.new.warnings c.unlink.result c.leads-linked.result c.leads-linked.ensures c.unlink.ensures
