-- `edit::links::leads` meets its contract. Assumes nothing.
use borrow.Author.Rules.{rules}
use native.Mathlib.Omega.{arith}
use mathlib.Core.Path.{refl, ap, ◌∙◌}
use mathlib.Core.Logic.{inr}
use Rattle.lists.specs.Select.{has}
use Rattle.row_tests.proofs.Lanes.{lane_room, links-within, ids_at_lem}
use Rattle.relink.proofs.links.leads.Goals as goal

pub overflow_mul-at : goal.overflow_mul-at
overflow_mul-at c = omega (arith, lane_room c.args.lanes.now c.requires.0 c.args.i c.requires.1, links-within c.args.lanes.now c.requires.0 c.args.i c.requires.1 35 (inr refl))

pub overflow_add-at : goal.overflow_add-at
overflow_add-at c = omega (arith, lane_room c.args.lanes.now c.requires.0 c.args.i c.requires.1, links-within c.args.lanes.now c.requires.0 c.args.i c.requires.1 35 (inr refl))

pub overflow_add-at-2 : goal.overflow_add-at-2
overflow_add-at-2 c = omega (arith, lane_room c.args.lanes.now c.requires.0 c.args.i c.requires.1, links-within c.args.lanes.now c.requires.0 c.args.i c.requires.1 35 (inr refl))

pub overflow_add-from : goal.overflow_add-from
overflow_add-from c = omega (arith, lane_room c.args.lanes.now c.requires.0 c.args.i c.requires.1, links-within c.args.lanes.now c.requires.0 c.args.i c.requires.1 35 (inr refl))

pub offset_bounds-lanes-at : goal.offset_bounds-lanes-at
offset_bounds-lanes-at c = omega (arith, lane_room c.args.lanes.now c.requires.0 c.args.i c.requires.1, links-within c.args.lanes.now c.requires.0 c.args.i c.requires.1 35 (inr refl))

pub bounds-lanes-at : goal.bounds-lanes-at
bounds-lanes-at c = omega (arith, lane_room c.args.lanes.now c.requires.0 c.args.i c.requires.1, links-within c.args.lanes.now c.requires.0 c.args.i c.requires.1 35 (inr refl))

pub overflow_add-to : goal.overflow_add-to
overflow_add-to c = omega (arith, lane_room c.args.lanes.now c.requires.0 c.args.i c.requires.1, links-within c.args.lanes.now c.requires.0 c.args.i c.requires.1 35 (inr refl))

pub offset_bounds-lanes-from : goal.offset_bounds-lanes-from
offset_bounds-lanes-from c = omega (arith, lane_room c.args.lanes.now c.requires.0 c.args.i c.requires.1, links-within c.args.lanes.now c.requires.0 c.args.i c.requires.1 35 (inr refl))

pub returns : goal.returns
returns c = c.contains.ensures ∙ ap (has c.args.id) (ids_at_lem c.args.lanes.now c.args.i 35 (links-within c.args.lanes.now c.requires.0 c.args.i c.requires.1 35 (inr refl)))

pub slice_bounds-contains-end : goal.slice_bounds-contains-end
slice_bounds-contains-end c = omega (arith, lane_room c.args.lanes.now c.requires.0 c.args.i c.requires.1, links-within c.args.lanes.now c.requires.0 c.args.i c.requires.1 35 (inr refl))
