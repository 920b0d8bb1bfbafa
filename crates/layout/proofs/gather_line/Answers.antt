-- `layout::gather_line` meets its contract. Assumes nothing.
use native.Mathlib.Omega.{arith}
use Prim.Native.Nat.{◌/◌}
use lib.ListN.{length}
use Rattle.layout.specs.Layout.{sourced}
use Rattle.layout.proofs.Laws.{line-words, line-fits, line-done}
use Rattle.layout.proofs.gather_line.Goals as goal

pub copy_line-requires : goal.copy_line-requires
copy_line-requires c =
    let a = c.args in
    (c.requires.0, (line-words (length (sourced a.reach a.work.now a.drawn.now) / 3) a.k a.rows.now c.requires.1.1.0, line-fits a.k a.at (length a.coordinates.now) a.rows.now c.requires.1.1.1))

pub overflow_add-result : goal.overflow_add-result
overflow_add-result c =
    let a = c.args in
    omega (arith, line-fits a.k a.at (length a.coordinates.now) a.rows.now c.requires.1.1.1, c.well_formed)

pub returns : goal.returns
returns c =
    let a = c.args in
    let l = c.copy_line in
    line-done a.k a.at a.rows.now (sourced a.reach a.work.now a.drawn.now) a.coordinates.now l.new.coordinates l.ensures
