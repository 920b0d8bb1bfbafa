-- `merge_rows::redrawn_of` meets its contract: a boundary that is found lies within the table. Assumes nothing.
use borrow.Author.Rules.{rules}
use native.Mathlib.Omega.{arith}
use Rattle.merge_redraw.proofs.Sides.{found-room, redrawn-found, redrawn-absent}
use Rattle.merge_rows.proofs.redrawn_of.Goals as goal

pub overflow_mul-result : goal.overflow_mul-result
overflow_mul-result c =
    let a = c.args in
    omega (arith, found-room a.lanes.now a.i a.side a.boundaries.now a.plan a.id a.start c.requires.1.1 c.boundary_ref-boundary.result c.boundary_ref-boundary.ensures c.boundary-found.result c.boundary-found.ensures c.in-Some.x c.in-Some.is)

pub overflow_add-result : goal.overflow_add-result
overflow_add-result c =
    let a = c.args in
    omega (arith, found-room a.lanes.now a.i a.side a.boundaries.now a.plan a.id a.start c.requires.1.1 c.boundary_ref-boundary.result c.boundary_ref-boundary.ensures c.boundary-found.result c.boundary-found.ensures c.in-Some.x c.in-Some.is)

pub overflow_add-result-in-Some : goal.overflow_add-result-in-Some
overflow_add-result-in-Some c =
    let a = c.args in
    omega (arith, found-room a.lanes.now a.i a.side a.boundaries.now a.plan a.id a.start c.requires.1.1 c.boundary_ref-boundary.result c.boundary_ref-boundary.ensures c.boundary-found.result c.boundary-found.ensures c.in-Some.x c.in-Some.is)

pub offset_bounds-boundaries-x : goal.offset_bounds-boundaries-x
offset_bounds-boundaries-x c =
    let a = c.args in
    omega (arith, found-room a.lanes.now a.i a.side a.boundaries.now a.plan a.id a.start c.requires.1.1 c.boundary_ref-boundary.result c.boundary_ref-boundary.ensures c.boundary-found.result c.boundary-found.ensures c.in-Some.x c.in-Some.is)

pub bounds-boundaries-x : goal.bounds-boundaries-x
bounds-boundaries-x c =
    let a = c.args in
    omega (arith, found-room a.lanes.now a.i a.side a.boundaries.now a.plan a.id a.start c.requires.1.1 c.boundary_ref-boundary.result c.boundary_ref-boundary.ensures c.boundary-found.result c.boundary-found.ensures c.in-Some.x c.in-Some.is)

pub overflow_mul-result-in-Some : goal.overflow_mul-result-in-Some
overflow_mul-result-in-Some c =
    let a = c.args in
    omega (arith, found-room a.lanes.now a.i a.side a.boundaries.now a.plan a.id a.start c.requires.1.1 c.boundary_ref-boundary.result c.boundary_ref-boundary.ensures c.boundary-found.result c.boundary-found.ensures c.in-Some.x c.in-Some.is)

pub overflow_add-result-in-Some-2 : goal.overflow_add-result-in-Some-2
overflow_add-result-in-Some-2 c =
    let a = c.args in
    omega (arith, found-room a.lanes.now a.i a.side a.boundaries.now a.plan a.id a.start c.requires.1.1 c.boundary_ref-boundary.result c.boundary_ref-boundary.ensures c.boundary-found.result c.boundary-found.ensures c.in-Some.x c.in-Some.is)

pub overflow_add-result-in-Some-3 : goal.overflow_add-result-in-Some-3
overflow_add-result-in-Some-3 c =
    let a = c.args in
    omega (arith, found-room a.lanes.now a.i a.side a.boundaries.now a.plan a.id a.start c.requires.1.1 c.boundary_ref-boundary.result c.boundary_ref-boundary.ensures c.boundary-found.result c.boundary-found.ensures c.in-Some.x c.in-Some.is)

pub offset_bounds-boundaries-x-in-Some : goal.offset_bounds-boundaries-x-in-Some
offset_bounds-boundaries-x-in-Some c =
    let a = c.args in
    omega (arith, found-room a.lanes.now a.i a.side a.boundaries.now a.plan a.id a.start c.requires.1.1 c.boundary_ref-boundary.result c.boundary_ref-boundary.ensures c.boundary-found.result c.boundary-found.ensures c.in-Some.x c.in-Some.is)

pub bounds-boundaries-x-in-Some : goal.bounds-boundaries-x-in-Some
bounds-boundaries-x-in-Some c =
    let a = c.args in
    omega (arith, found-room a.lanes.now a.i a.side a.boundaries.now a.plan a.id a.start c.requires.1.1 c.boundary_ref-boundary.result c.boundary_ref-boundary.ensures c.boundary-found.result c.boundary-found.ensures c.in-Some.x c.in-Some.is)

pub returns-in-Some : goal.returns-in-Some
returns-in-Some c =
    let a = c.args in
    redrawn-found a.lanes.now a.i a.side a.boundaries.now a.plan a.id a.start c.requires.1.1 c.boundary_ref-boundary.result c.boundary_ref-boundary.ensures c.boundary-found.result c.boundary-found.ensures c.in-Some.x c.in-Some.is

pub returns-in-None : goal.returns-in-None
returns-in-None c =
    let a = c.args in
    redrawn-absent a.lanes.now a.i a.side a.boundaries.now a.plan a.id a.start c.requires.1.1 c.boundary_ref-boundary.result c.boundary_ref-boundary.ensures c.boundary-found.result c.boundary-found.ensures c.in-None.is
