-- `layout_all::gather_center` meets its contract: of a lane with no explicit centreline, and of one that has one. Assumes nothing.
use Rattle.layout.specs.Layout.{sourced, centerlines}
use Rattle.layout.proofs.Column.{row_stays, row-ready, row-turned, center_there, center_absent}
use native.Mathlib.Omega.{arith}
use Rattle.layout_all.proofs.gather_center.Goals as goal

pub returns-then-lanes-row-eq0 : goal.returns-then-lanes-row-eq0
returns-then-lanes-row-eq0 c = row_stays centerlines (sourced c.args.reach c.args.work.now c.args.drawn.now) c.args.lanes.now c.args.coordinates.now c.args.at c.args.row (center_absent c.args.lanes.now c.args.row c.if-lanes-row-eq0.true) c.requires.1.0

pub gather_line-requires : goal.gather_line-requires
gather_line-requires c =
    let a = c.args in
    (c.requires.0, row-ready centerlines a.lanes.now a.row a.at (omega arith) c.requires.1.0 (center_there a.lanes.now a.row c.if-lanes-row-eq0.false) (sourced a.reach a.work.now a.drawn.now) a.coordinates.now c.requires.1.1.0 c.requires.1.1.1)

pub returns : goal.returns
returns c =
    let a = c.args in
    let g = c.gather_line in
    row-turned centerlines a.lanes.now a.row a.at (omega arith) c.requires.1.0 (center_there a.lanes.now a.row c.if-lanes-row-eq0.false) (sourced a.reach a.work.now a.drawn.now) a.coordinates.now g.new.rows g.new.coordinates g.result g.ensures.0 g.ensures.1.0 g.ensures.1.1
