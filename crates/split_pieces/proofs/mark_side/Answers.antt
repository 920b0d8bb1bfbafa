-- `split_pieces::mark_side` meets its contract: a store where the boundary is found. Assumes nothing.
use borrow.Author.Rules.{rules}
use Rattle.split_pieces.proofs.Marks.{side-found, side-none, side-room}
use Rattle.split_pieces.proofs.mark_side.Goals as goal

pub bounds-marks-x : goal.bounds-marks-x
bounds-marks-x c =
    let u = c.args in
    side-room u.lanes.now u.j u.side u.boundaries.now u.marks.now c.boundary_ref-id.result c.boundary_ref-id.ensures c.boundary-found.result c.boundary-found.ensures c.requires.0.1.1 c.in-Some.x c.in-Some.is

pub returns-in-Some : goal.returns-in-Some
returns-in-Some c =
    let u = c.args in
    side-found u.lanes.now u.j u.side u.boundaries.now u.marks.now c.boundary_ref-id.result c.boundary_ref-id.ensures c.boundary-found.result c.boundary-found.ensures c.in-Some.x c.in-Some.is

pub returns-in-None : goal.returns-in-None
returns-in-None c =
    let u = c.args in
    side-none u.lanes.now u.j u.side u.boundaries.now u.marks.now c.boundary_ref-id.result c.boundary_ref-id.ensures c.boundary-found.result c.boundary-found.ensures c.in-None.is
