-- `edit::set_neighbor` meets its contract. Assumes nothing.
use native.Mathlib.Omega.{arith}
use Rattle.tables.specs.View.{Tables}
use Rattle.step.specs.Step.{Lent, relink_given}
use Rattle.lent.specs.Lent.{relink_tables}
use Rattle.edit.proofs.Beside.{set-absent}
use Rattle.sound_facts.proofs.Found.{found, missing, lanes_are_sorted, leads-may}
use Rattle.edit.proofs.Ends.{set-may, freed, besides, beside-missing, beside-itself}
use Rattle.edit.proofs.set_neighbor.Goals as goal
use Rattle.edit.proofs.set_neighbor.Goals.{Start}

-- what is lent
abbrev held : Start → Tables
held s = relink_tables s.args.map.now

abbrev lent : Start → Lent
lent s = relink_given s.args.counter s.args.map.now s.args.lists.now

pub lane-found-requires : goal.lane-found-requires
lane-found-requires c = lanes_are_sorted c.args.counter (held (goal.at.lane-found-requires c).Start) c.requires

pub returns-in_default-clause-made : goal.returns-in_default-clause-made
returns-in_default-clause-made c = let s = (goal.at.returns-in_default-clause-made c).Start in set-absent s.args.tolerance (lent s) s.requires (omega (arith, s.well_formed.0.1)) s.args.lane s.args.side s.args.neighbor (missing s.args.map.now.lanes.now s.args.lane c.lane-found.result c.lane-found.ensures c.in_default.is)

pub free_slot-requires : goal.free_slot-requires
free_slot-requires c = let s = (goal.at.free_slot-requires c).Start in leads-may s.args.counter (held s) s.requires s.args.lane c.in-Some.i (found s.args.map.now.lanes.now s.args.lane c.in-Some.i c.lane-found.result c.lane-found.ensures c.in-Some.is)

pub returns-in_default-neighbor-clause-made : goal.returns-in_default-neighbor-clause-made
returns-in_default-neighbor-clause-made c = let s = (goal.at.returns-in_default-neighbor-clause-made c).Start in freed s.args.tolerance (lent s) s.requires (omega (arith, s.well_formed.0.1)) s.args.lane c.in-Some.i (found s.args.map.now.lanes.now s.args.lane c.in-Some.i c.lane-found.result c.lane-found.ensures c.in-Some.is) s.args.side s.args.neighbor c.free_slot.new.lanes c.free_slot.new.modified c.free_slot.new.warnings c.free_slot.result c.in_default-neighbor.is c.free_slot.ensures

pub lane-other-requires : goal.lane-other-requires
lane-other-requires c = lanes_are_sorted c.args.counter (held (goal.at.lane-other-requires c).Start) c.requires

pub returns-in_default-other-clause-made : goal.returns-in_default-other-clause-made
returns-in_default-other-clause-made c = let s = (goal.at.returns-in_default-other-clause-made c).Start in beside-missing s.args.tolerance (lent s) s.requires (omega (arith, s.well_formed.0.1)) s.args.lane c.in-Some.i (found s.args.map.now.lanes.now s.args.lane c.in-Some.i c.lane-found.result c.lane-found.ensures c.in-Some.is) s.args.side s.args.neighbor c.in-Some-neighbor.n c.in-Some-neighbor.is (missing s.args.map.now.lanes.now c.in-Some-neighbor.n.lane c.lane-other.result c.lane-other.ensures c.in_default-other.is)

pub returns-then-n-lane-clause-made : goal.returns-then-n-lane-clause-made
returns-then-n-lane-clause-made c = let s = (goal.at.returns-then-n-lane-clause-made c).Start in beside-itself s.args.tolerance (lent s) s.requires (omega (arith, s.well_formed.0.1)) s.args.lane c.in-Some.i (found s.args.map.now.lanes.now s.args.lane c.in-Some.i c.lane-found.result c.lane-found.ensures c.in-Some.is) s.args.side s.args.neighbor c.in-Some-neighbor.n c.in-Some-other.j c.in-Some-neighbor.is (found s.args.map.now.lanes.now c.in-Some-neighbor.n.lane c.in-Some-other.j c.lane-other.result c.lane-other.ensures c.in-Some-other.is) c.if-n-lane.true

pub set_slot-requires : goal.set_slot-requires
set_slot-requires c = let s = (goal.at.set_slot-requires c).Start in set-may s.args.counter (held s) s.requires s.args.lane c.in-Some-neighbor.n.lane c.in-Some.i c.in-Some-other.j (found s.args.map.now.lanes.now s.args.lane c.in-Some.i c.lane-found.result c.lane-found.ensures c.in-Some.is) (found s.args.map.now.lanes.now c.in-Some-neighbor.n.lane c.in-Some-other.j c.lane-other.result c.lane-other.ensures c.in-Some-other.is) c.if-n-lane.false

pub returns-clause-made : goal.returns-clause-made
returns-clause-made c = let s = (goal.at.returns-clause-made c).Start in besides s.args.tolerance (lent s) s.requires (omega (arith, s.well_formed.0.1)) s.args.lane c.in-Some.i (found s.args.map.now.lanes.now s.args.lane c.in-Some.i c.lane-found.result c.lane-found.ensures c.in-Some.is) s.args.side s.args.neighbor c.set_slot.new.lanes c.set_slot.new.modified c.set_slot.new.warnings c.set_slot.result c.in-Some-neighbor.n c.in-Some-other.j c.in-Some-neighbor.is (found s.args.map.now.lanes.now c.in-Some-neighbor.n.lane c.in-Some-other.j c.lane-other.result c.lane-other.ensures c.in-Some-other.is) c.if-n-lane.false c.set_slot.ensures
