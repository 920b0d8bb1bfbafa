-- `merge_decide::side_plan` meets its contract: a boundary that both lanes name, one that is absent, or both lines joined, in place where each is its lane's alone. Assumes nothing.
use mathlib.Core.Path.{sym, ◌∙◌}
use borrow.Author.Rules.{rules}
use Rattle.merge_plan.proofs.Laws.{side-kept, first_absent, second-absent, side-rows, side_in_place, side-fresh}
use Rattle.merge_decide.proofs.side_plan.Goals as goal

pub returns-then-one-two : goal.returns-then-one-two
returns-then-one-two c = side-kept c.args.join c.args.map.coordinates.now c.args.map.lanes.now c.args.map.boundaries.now c.args.map.drawable c.args.i c.args.j c.requires.0 c.requires.1 c.args.side c.boundary_ref-one.result c.boundary_ref-two.result c.boundary_ref-one.ensures c.boundary_ref-two.ensures c.if-one-two.true

pub returns-in_default : goal.returns-in_default
returns-in_default c = first_absent c.args.join c.args.map.coordinates.now c.args.map.lanes.now c.args.map.boundaries.now c.args.map.drawable c.args.i c.args.j c.requires.0 c.requires.1 c.args.side c.boundary_ref-one.result c.boundary_ref-two.result c.boundary_ref-one.ensures c.boundary_ref-two.ensures c.if-one-two.false (sym c.boundary-found.ensures ∙ c.in_default.is)

pub returns-in_default-other : goal.returns-in_default-other
returns-in_default-other c = second-absent c.args.join c.args.map.coordinates.now c.args.map.lanes.now c.args.map.boundaries.now c.args.map.drawable c.args.i c.args.j c.requires.0 c.requires.1 c.args.side c.boundary_ref-one.result c.boundary_ref-two.result c.boundary_ref-one.ensures c.boundary_ref-two.ensures c.if-one-two.false c.in-Some.x (sym c.boundary-found.ensures ∙ c.in-Some.is) (sym c.boundary-other.ensures ∙ c.in_default-other.is)

pub joined_points-points-requires : goal.joined_points-points-requires
joined_points-points-requires c = side-rows c.args.join c.args.map.coordinates.now c.args.map.lanes.now c.args.map.boundaries.now c.args.map.drawable c.args.i c.args.j c.requires.0 c.requires.1 c.args.side c.boundary_ref-one.result c.boundary_ref-two.result c.boundary_ref-one.ensures c.boundary_ref-two.ensures c.if-one-two.false c.in-Some.x (sym c.boundary-found.ensures ∙ c.in-Some.is) c.in-Some-other.y (sym c.boundary-other.ensures ∙ c.in-Some-other.is)

pub returns-then-alone : goal.returns-then-alone
returns-then-alone c = side_in_place c.args.join c.args.map.coordinates.now c.args.map.lanes.now c.args.map.boundaries.now c.args.map.drawable c.args.i c.args.j c.requires.0 c.requires.1 c.args.side c.boundary_ref-one.result c.boundary_ref-two.result c.boundary_ref-one.ensures c.boundary_ref-two.ensures c.if-one-two.false c.in-Some.x (sym c.boundary-found.ensures ∙ c.in-Some.is) c.in-Some-other.y (sym c.boundary-other.ensures ∙ c.in-Some-other.is) c.joined_points-points.result c.joined_points-points.ensures c.alone.result c.alone.ensures c.if-alone.true

pub returns : goal.returns
returns c = side-fresh c.args.join c.args.map.coordinates.now c.args.map.lanes.now c.args.map.boundaries.now c.args.map.drawable c.args.i c.args.j c.requires.0 c.requires.1 c.args.side c.boundary_ref-one.result c.boundary_ref-two.result c.boundary_ref-one.ensures c.boundary_ref-two.ensures c.if-one-two.false c.in-Some.x (sym c.boundary-found.ensures ∙ c.in-Some.is) c.in-Some-other.y (sym c.boundary-other.ensures ∙ c.in-Some-other.is) c.joined_points-points.result c.joined_points-points.ensures c.alone.result c.alone.ensures c.if-alone.false
