-- `gathers::gather_in` meets its contract: up to `reach` the copy is the coordinates. Assumes nothing.
use native.Mathlib.Omega.{arith}
use Rattle.lent.specs.Lent.{lines_tables}
use Rattle.layout.proofs.Sourced.{sourced-copy, gathered-from}
use Rattle.layout.specs.Layout.{sourced}
use Rattle.gathers.proofs.gather_in.Goals as goal

pub gather_all-requires : goal.gather_all-requires
gather_all-requires c =
    let a = c.args in
    let e = sourced-copy a.reach a.lines.now.coordinates.now a.work.now c.copy.new.out a.drawn.now c.requires.1.0 c.copy.ensures in
    (omega (arith, c.requires.0, c.copy.auto), rw e c.requires.1.1)

pub returns-clause-made : goal.returns-clause-made
returns-clause-made c =
    let a = c.args in
    gathered-from (sourced a.reach c.copy.new.out a.drawn.now) (sourced a.reach a.lines.now.coordinates.now a.drawn.now) (lines_tables a.lines.now)
    (lines_tables c.gather_all.new.lines) c.gather_all.ensures.made (sourced-copy a.reach a.lines.now.coordinates.now a.work.now c.copy.new.out a.drawn.now c.requires.1.0 c.copy.ensures)
