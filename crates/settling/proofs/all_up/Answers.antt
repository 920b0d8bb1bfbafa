-- `settling::all_up` meets its contract: column by column, the last first. Assumes nothing.
use mathlib.Core.Path.{refl, ap, ◌∙◌}
use native.Mathlib.Omega.{arith}
use Prim.Native.Nat.{◌/◌}
use lib.ListN.{length}
use Rattle.lent.specs.Lent.{lines_tables}
use Rattle.layout.specs.Layout.{pointing}
use Rattle.in_place.proofs.Columns.{movable, columns-points, columns-walked, columns-up}
use Rattle.settling.proofs.all_up.Goals as goal

pub column_up-rights-requires : goal.column_up-rights-requires
column_up-rights-requires c =
    let a = c.args in
    let t = lines_tables a.lines.now in
    ((columns-walked t a.reach (length a.drawn.now / 3) c.requires.0).1.1.1.1, (omega (arith, columns-points t, c.requires.1.0), movable a.reach a.drawn.now t.coordinates t.coordinates a.end a.end c.requires.1.1 refl (omega (arith))))

pub column_up-lefts-requires : goal.column_up-lefts-requires
column_up-lefts-requires c =
    let a = c.args in
    let t = lines_tables a.lines.now in
    let g1 = c.column_up-rights in
    ((columns-walked t a.reach (length a.drawn.now / 3) c.requires.0).1.1.1.0, (omega (arith, columns-points t, c.requires.1.0, g1.ensures.0), movable a.reach a.drawn.now t.coordinates g1.new.coordinates a.end g1.result c.requires.1.1 g1.auto.coordinates (omega (arith, g1.ensures.0))))

pub column_up-stops-requires : goal.column_up-stops-requires
column_up-stops-requires c =
    let a = c.args in
    let t = lines_tables a.lines.now in
    let g1 = c.column_up-rights in
    let g2 = c.column_up-lefts in
    ((columns-walked t a.reach (length a.drawn.now / 3) c.requires.0).1.1.0, (omega (arith, columns-points t, c.requires.1.0, g1.ensures.0, g2.ensures.0), movable a.reach a.drawn.now t.coordinates g2.new.coordinates a.end g2.result c.requires.1.1 (g2.auto.coordinates ∙ g1.auto.coordinates) (omega (arith, g1.ensures.0, g2.ensures.0))))

pub column_up-centers-requires : goal.column_up-centers-requires
column_up-centers-requires c =
    let a = c.args in
    let t = lines_tables a.lines.now in
    let g1 = c.column_up-rights in
    let g2 = c.column_up-lefts in
    let g3 = c.column_up-stops in
    ((columns-walked t a.reach (length a.drawn.now / 3) c.requires.0).1.0, (omega (arith, columns-points t, c.requires.1.0, g1.ensures.0, g2.ensures.0, g3.ensures.0), movable a.reach a.drawn.now t.coordinates g3.new.coordinates a.end g3.result c.requires.1.1 (g3.auto.coordinates ∙ g2.auto.coordinates ∙ g1.auto.coordinates) (omega (arith, g1.ensures.0, g2.ensures.0, g3.ensures.0))))

pub column_up-requires : goal.column_up-requires
column_up-requires c =
    let a = c.args in
    let t = lines_tables a.lines.now in
    let g1 = c.column_up-rights in
    let g2 = c.column_up-lefts in
    let g3 = c.column_up-stops in
    let g4 = c.column_up-centers in
    ((columns-walked t a.reach (length a.drawn.now / 3) c.requires.0).0, (omega (arith, columns-points t, c.requires.1.0, g1.ensures.0, g2.ensures.0, g3.ensures.0, g4.ensures.0), movable a.reach a.drawn.now t.coordinates g4.new.coordinates a.end g4.result c.requires.1.1 (g4.auto.coordinates ∙ g3.auto.coordinates ∙ g2.auto.coordinates ∙ g1.auto.coordinates) (omega (arith, g1.ensures.0, g2.ensures.0, g3.ensures.0, g4.ensures.0))))

pub returns-clause-made : goal.returns-clause-made
returns-clause-made c =
    let a = c.args in
    let t = lines_tables a.lines.now in
    let g1 = c.column_up-rights in
    let g2 = c.column_up-lefts in
    let g3 = c.column_up-stops in
    let g4 = c.column_up-centers in
    let g5 = c.column_up in
    ap (λ z. pointing z t) (columns-up t a.drawn.now a.reach a.end g1.result g2.result g3.result g4.result t.coordinates g1.new.coordinates g2.new.coordinates g3.new.coordinates g4.new.coordinates g5.new.coordinates c.requires.1.0 g1.ensures g2.ensures g3.ensures g4.ensures g5.ensures.1)
