-- `merge_gone::goes` meets its contract: it is in the table, and no lane but the two uses it. Assumes nothing.
use borrow.Author.Rules.{rules}
use native.Mathlib.Omega.{arith}
use Rattle.merge_gone.proofs.Going.{both-rows, goes-missing, goes-there}
use Rattle.merge_gone.proofs.goes.Goals as goal

pub returns-in_default : goal.returns-in_default
returns-in_default c =
    let a = c.args in
    goes-missing a.lanes.now a.i a.j a.left a.right a.boundaries.now a.id c.boundary-found.result c.boundary-found.ensures c.in_default.is

pub overflow_mul-first : goal.overflow_mul-first
overflow_mul-first c = omega (arith, both-rows c.requires)

pub overflow_add-first : goal.overflow_add-first
overflow_add-first c = omega (arith, both-rows c.requires)

pub offset_bounds-lanes-i : goal.offset_bounds-lanes-i
offset_bounds-lanes-i c = omega (arith, both-rows c.requires)

pub bounds-lanes-i : goal.bounds-lanes-i
bounds-lanes-i c = omega (arith, both-rows c.requires)

pub overflow_mul-second : goal.overflow_mul-second
overflow_mul-second c = omega (arith, both-rows c.requires)

pub overflow_add-second : goal.overflow_add-second
overflow_add-second c = omega (arith, both-rows c.requires)

pub offset_bounds-lanes-j : goal.offset_bounds-lanes-j
offset_bounds-lanes-j c = omega (arith, both-rows c.requires)

pub bounds-lanes-j : goal.bounds-lanes-j
bounds-lanes-j c = omega (arith, both-rows c.requires)

pub returns : goal.returns
returns c =
    let a = c.args in
    goes-there a.lanes.now a.i a.j a.left a.right a.boundaries.now a.id c.boundary-found.result c.boundary-found.ensures c.in-Some.field-0 c.in-Some.is c.held.result c.used_outside.result c.either.result c.held.ensures c.used_outside.ensures c.either.ensures
