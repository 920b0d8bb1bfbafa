-- `split_cross::crosses` meets its contract: by the boundary, its nearest point, and whether it can be cut there. Assumes nothing.
use borrow.Author.Rules.{rules}
use mathlib.Core.Path.{◌∙◌, sym}
use Rattle.lookup.proofs.Laws.{place-within}
use Rattle.split_plan.proofs.Leaves.{cross-absent, cross_pointless, cross-there, cross-outside}
use Rattle.split_cross.proofs.crosses.Goals as goal

pub returns-in_default : goal.returns-in_default
returns-in_default c = cross-absent c.args.coordinates.now c.args.boundaries.now c.args.id c.args.point (sym c.boundary-found.ensures ∙ c.in_default.is)

pub boundary_line-line-requires : goal.boundary_line-line-requires
boundary_line-line-requires c = (c.requires.0, (place-within 5 c.args.boundaries.now c.args.id c.in-Some.x (sym c.boundary-found.ensures ∙ c.in-Some.is), c.requires.1))

pub returns-in_default-near : goal.returns-in_default-near
returns-in_default-near c = cross_pointless c.args.coordinates.now c.args.boundaries.now c.args.id c.args.point c.in-Some.x (sym c.boundary-found.ensures ∙ c.in-Some.is) c.boundary_line-line.result.now c.boundary_line-line.ensures c.nearest_point-near.result c.nearest_point-near.ensures c.in_default-near.is

pub returns-then-cuttable : goal.returns-then-cuttable
returns-then-cuttable c = cross-there c.args.coordinates.now c.args.boundaries.now c.args.id c.args.point c.in-Some.x (sym c.boundary-found.ensures ∙ c.in-Some.is) c.boundary_line-line.result.now c.boundary_line-line.ensures c.nearest_point-near.result c.nearest_point-near.ensures c.in-Some-near.nearest c.in-Some-near.is c.cuttable.result c.cuttable.ensures c.if-cuttable.true

pub returns : goal.returns
returns c = cross-outside c.args.coordinates.now c.args.boundaries.now c.args.id c.args.point c.in-Some.x (sym c.boundary-found.ensures ∙ c.in-Some.is) c.boundary_line-line.result.now c.boundary_line-line.ensures c.nearest_point-near.result c.nearest_point-near.ensures c.in-Some-near.nearest c.in-Some-near.is c.cuttable.result c.cuttable.ensures c.if-cuttable.false
