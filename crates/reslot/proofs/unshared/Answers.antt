-- `slots::unshared` meets its contract. Assumes nothing.
use Rattle.lookup.proofs.Laws.{searchable-sorted}
use Rattle.reslot.proofs.Reslot.{two-boundaries}
use Rattle.reslot.proofs.unshared.Goals as goal

pub boundary_ref-own-requires : goal.boundary_ref-own-requires
boundary_ref-own-requires c = (searchable-sorted c.args.lanes.now c.requires.0, c.requires.1.0)

pub boundary_ref-other-requires : goal.boundary_ref-other-requires
boundary_ref-other-requires c = (searchable-sorted c.args.lanes.now c.requires.0, c.requires.1.1)

pub returns : goal.returns
returns c =
    let a = c.args in
    let x = c.boundary_ref-own in
    let y = c.boundary_ref-other in
    two-boundaries a.lanes.now a.i a.side a.j a.answer x.result y.result x.ensures y.ensures
