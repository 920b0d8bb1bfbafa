-- `settling::all_starts` meets its contract: column by column. Assumes nothing.
use mathlib.Core.Path.{ap}
use native.Mathlib.Omega.{arith}
use Rattle.lent.specs.Lent.{lines_tables}
use Rattle.layout.specs.Layout.{points_in}
use Rattle.layout.proofs.Stages.{counts, rights-ready}
use Rattle.apart.proofs.Marks.{counted-more}
use Rattle.in_place.proofs.Columns.{columns-points, columns-started}
use Rattle.settling.proofs.all_starts.Goals as goal

pub column_starts-centers-requires : goal.column_starts-centers-requires
column_starts-centers-requires c =
    let a = c.args in
    let t = lines_tables a.lines.now in
    (omega arith, (omega arith, (omega arith, ((counts t c.requires.0).1.0, omega (arith, columns-points t, c.requires.1)))))

pub column_starts-stops-requires : goal.column_starts-stops-requires
column_starts-stops-requires c =
    let a = c.args in
    let t = lines_tables a.lines.now in
    let g1 = c.column_starts-centers in
    (omega arith, (omega arith, (omega arith, (counted-more 1024 4096 52 t.lanes (omega arith) (counts t c.requires.0).0, omega (arith, columns-points t, c.requires.1, g1.ensures.0)))))

pub column_starts-lefts-requires : goal.column_starts-lefts-requires
column_starts-lefts-requires c =
    let a = c.args in
    let t = lines_tables a.lines.now in
    let g1 = c.column_starts-centers in
    let g2 = c.column_starts-stops in
    (omega arith, (omega arith, (omega arith, ((counts t c.requires.0).1.1.0, omega (arith, columns-points t, c.requires.1, g1.ensures.0, g2.ensures.0)))))

pub column_starts-rights-requires : goal.column_starts-rights-requires
column_starts-rights-requires c =
    let a = c.args in
    let t = lines_tables a.lines.now in
    let g1 = c.column_starts-centers in
    let g2 = c.column_starts-stops in
    let g3 = c.column_starts-lefts in
    (omega arith, (omega arith, (omega arith, ((counts t c.requires.0).1.1.1, omega (arith, columns-points t, c.requires.1, g1.ensures.0, g2.ensures.0, g3.ensures.0)))))

pub column_starts-requires : goal.column_starts-requires
column_starts-requires c =
    let a = c.args in
    let t = lines_tables a.lines.now in
    let g1 = c.column_starts-centers in
    let g2 = c.column_starts-stops in
    let g3 = c.column_starts-lefts in
    let g4 = c.column_starts-rights in
    let e = rights-ready g3.result t.crosswalks g4.new.t g4.ensures.1 (counts t c.requires.0).1.1.1 in
    (omega arith, (omega arith, (omega arith, (e.0, omega (arith, columns-points t, c.requires.1, g1.ensures.0, g2.ensures.0, g3.ensures.0, g4.ensures.0, ap points_in e.1)))))

pub returns-clause-made : goal.returns-clause-made
returns-clause-made c =
    let t = lines_tables c.args.lines.now in
    let g1 = c.column_starts-centers in
    let g2 = c.column_starts-stops in
    let g3 = c.column_starts-lefts in
    let g4 = c.column_starts-rights in
    let g5 = c.column_starts in
    columns-started t.lanes t.boundaries t.stop_lines t.crosswalks g2.new.t g1.new.t g3.new.t g4.new.t g5.new.t t.coordinates g1.result g2.result g3.result g4.result g1.ensures g2.ensures g3.ensures g4.ensures g5.ensures.1
