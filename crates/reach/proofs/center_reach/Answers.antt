-- `reach::center_reach` meets its contract: of a lane with no explicit centreline, and of one that has one. Assumes nothing.
use native.Mathlib.Omega.{arith}
use Rattle.layout.specs.Layout.{centerlines}
use Rattle.layout.proofs.Column.{center_there, center_absent}
use Rattle.layout.proofs.Reach.{row-nowhere, row-within-n, row-reach}
use Rattle.reach.proofs.center_reach.Goals as goal

pub returns-then-lanes-row-eq0 : goal.returns-then-lanes-row-eq0
returns-then-lanes-row-eq0 c = let a = c.args in row-nowhere centerlines a.lanes.now a.row a.most (center_absent a.lanes.now a.row c.if-lanes-row-eq0.true)

pub line_reach-requires : goal.line_reach-requires
line_reach-requires c =
    let a = c.args in
    row-within-n centerlines a.lanes.now a.row (omega arith) c.requires.0 (center_there a.lanes.now a.row c.if-lanes-row-eq0.false) 65536 c.requires.1

pub returns : goal.returns
returns c =
    let a = c.args in
    row-reach centerlines a.lanes.now a.row (omega arith) c.requires.0 (center_there a.lanes.now a.row c.if-lanes-row-eq0.false) a.most c.line_reach.result c.line_reach.ensures
