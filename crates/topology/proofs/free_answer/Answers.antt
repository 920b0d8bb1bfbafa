-- `topology::free_answer` meets its contract. Assumes nothing.
use borrow.Author.Rules.{rules}
use native.Mathlib.Omega.{arith}
use mathlib.Core.Path.{sym, ap, ◌∙◌}
use Rattle.row_tests.proofs.Lanes.{lane_room}
use Rattle.lookup.proofs.Laws.{searchable-sorted}
use Rattle.topology.specs.Topology.{slot_place}
use Rattle.topology.proofs.Neighbors.{slot-room, found-row, freed-none, freed-lost, freed-at}
use Rattle.topology.proofs.free_answer.Goals as goal

pub returns-in_default : goal.returns-in_default
returns-in_default c = freed-none c.args.lanes.now c.requires c.args.side c.args.held c.in_default.is

pub lane-found-requires : goal.lane-found-requires
lane-found-requires c = searchable-sorted c.args.lanes.now c.requires

pub returns-in_default-found : goal.returns-in_default-found
returns-in_default-found c = freed-lost c.args.lanes.now c.requires c.args.side c.args.held c.in-Some.n c.in-Some.is (sym c.lane-found.ensures ∙ c.in_default-found.is)

pub overflow_mul-lanes : goal.overflow_mul-lanes
overflow_mul-lanes c = omega (arith, lane_room c.args.lanes.now c.requires c.in-Some-found.j (found-row c.args.lanes.now c.requires c.args.side c.args.held c.in-Some.n c.in-Some.is c.in-Some-found.j (sym c.lane-found.ensures ∙ c.in-Some-found.is)))

pub overflow_add-lanes : goal.overflow_add-lanes
overflow_add-lanes c = omega (arith, lane_room c.args.lanes.now c.requires c.in-Some-found.j (found-row c.args.lanes.now c.requires c.args.side c.args.held c.in-Some.n c.in-Some.is c.in-Some-found.j (sym c.lane-found.ensures ∙ c.in-Some-found.is)))

pub overflow_add-lanes-2 : goal.overflow_add-lanes-2
overflow_add-lanes-2 c = omega (arith, slot-room c.args.lanes.now c.requires c.in-Some-found.j (found-row c.args.lanes.now c.requires c.args.side c.args.held c.in-Some.n c.in-Some.is c.in-Some-found.j (sym c.lane-found.ensures ∙ c.in-Some-found.is)) c.reciprocal_side.result c.slot_place-answer.result c.slot_place-answer.ensures)

pub offset_bounds-lanes-j : goal.offset_bounds-lanes-j
offset_bounds-lanes-j c = omega (arith, slot-room c.args.lanes.now c.requires c.in-Some-found.j (found-row c.args.lanes.now c.requires c.args.side c.args.held c.in-Some.n c.in-Some.is c.in-Some-found.j (sym c.lane-found.ensures ∙ c.in-Some-found.is)) c.reciprocal_side.result c.slot_place-answer.result c.slot_place-answer.ensures)

pub bounds-lanes-j : goal.bounds-lanes-j
bounds-lanes-j c = omega (arith, slot-room c.args.lanes.now c.requires c.in-Some-found.j (found-row c.args.lanes.now c.requires c.args.side c.args.held c.in-Some.n c.in-Some.is c.in-Some-found.j (sym c.lane-found.ensures ∙ c.in-Some-found.is)) c.reciprocal_side.result c.slot_place-answer.result c.slot_place-answer.ensures)

pub returns : goal.returns
returns c = freed-at c.args.lanes.now c.requires c.args.side c.args.held c.in-Some.n c.in-Some.is c.in-Some-found.j (sym c.lane-found.ensures ∙ c.in-Some-found.is) c.slot_place-answer.result (c.slot_place-answer.ensures ∙ ap slot_place c.reciprocal_side.ensures)
