-- `settling::all_down` meets its contract: column by column. Assumes nothing.
use mathlib.Core.Path.{refl, ap, ◌∙◌}
use mathlib.Core.List.{[]}
use native.Mathlib.Omega.{arith}
use Prim.Native.Nat.{◌+◌}
use Rattle.lent.specs.Lent.{lines_tables}
use Rattle.tables.specs.Formed.{spans}
use Rattle.layout.specs.Layout.{points_in, column_lines, pointing, boundary_lines_of, centerlines, stop_lines_of, left_edges_of, right_edges_of}
use Rattle.in_place.proofs.Columns.{movable, columns-points, columns-walked, columns-down}
use Rattle.settling.proofs.all_down.Goals as goal

pub column_down-centers-requires : goal.column_down-centers-requires
column_down-centers-requires c =
    let a = c.args in
    let t = lines_tables a.lines.now in
    ((columns-walked t a.reach 65536 c.requires.0).0, movable a.reach [] t.coordinates t.coordinates (points_in (spans t)) (0 + points_in (column_lines boundary_lines_of t.boundaries)) c.requires.1 refl (omega (arith, columns-points t)))

pub column_down-stops-requires : goal.column_down-stops-requires
column_down-stops-requires c =
    let a = c.args in
    let t = lines_tables a.lines.now in
    let g1 = c.column_down-centers in
    ((columns-walked t a.reach 65536 c.requires.0).1.0, movable a.reach [] t.coordinates g1.new.coordinates (points_in (spans t)) (g1.result + points_in (column_lines centerlines t.lanes)) c.requires.1 g1.auto.coordinates (omega (arith, columns-points t, g1.ensures.0)))

pub column_down-lefts-requires : goal.column_down-lefts-requires
column_down-lefts-requires c =
    let a = c.args in
    let t = lines_tables a.lines.now in
    let g1 = c.column_down-centers in
    let g2 = c.column_down-stops in
    ((columns-walked t a.reach 65536 c.requires.0).1.1.0, movable a.reach [] t.coordinates g2.new.coordinates (points_in (spans t)) (g2.result + points_in (column_lines stop_lines_of t.stop_lines)) c.requires.1 (g2.auto.coordinates ∙ g1.auto.coordinates) (omega (arith, columns-points t, g1.ensures.0, g2.ensures.0)))

pub column_down-rights-requires : goal.column_down-rights-requires
column_down-rights-requires c =
    let a = c.args in
    let t = lines_tables a.lines.now in
    let g1 = c.column_down-centers in
    let g2 = c.column_down-stops in
    let g3 = c.column_down-lefts in
    ((columns-walked t a.reach 65536 c.requires.0).1.1.1.0, movable a.reach [] t.coordinates g3.new.coordinates (points_in (spans t)) (g3.result + points_in (column_lines left_edges_of t.crosswalks)) c.requires.1 (g3.auto.coordinates ∙ g2.auto.coordinates ∙ g1.auto.coordinates) (omega (arith, columns-points t, g1.ensures.0, g2.ensures.0, g3.ensures.0)))

pub column_down-requires : goal.column_down-requires
column_down-requires c =
    let a = c.args in
    let t = lines_tables a.lines.now in
    let g1 = c.column_down-centers in
    let g2 = c.column_down-stops in
    let g3 = c.column_down-lefts in
    let g4 = c.column_down-rights in
    ((columns-walked t a.reach 65536 c.requires.0).1.1.1.1, movable a.reach [] t.coordinates g4.new.coordinates (points_in (spans t)) (g4.result + points_in (column_lines right_edges_of t.crosswalks)) c.requires.1 (g4.auto.coordinates ∙ g3.auto.coordinates ∙ g2.auto.coordinates ∙ g1.auto.coordinates) (omega (arith, columns-points t, g1.ensures.0, g2.ensures.0, g3.ensures.0, g4.ensures.0)))

pub returns-clause-ends : goal.returns-clause-ends
returns-clause-ends c =
    let t = lines_tables c.args.lines.now in
    let g1 = c.column_down-centers in
    let g2 = c.column_down-stops in
    let g3 = c.column_down-lefts in
    let g4 = c.column_down-rights in
    omega (arith, columns-points t, g1.ensures.0, g2.ensures.0, g3.ensures.0, g4.ensures.0, c.column_down.ensures.0)

pub returns-clause-made : goal.returns-clause-made
returns-clause-made c =
    let a = c.args in
    let t = lines_tables a.lines.now in
    let g1 = c.column_down-centers in
    let g2 = c.column_down-stops in
    let g3 = c.column_down-lefts in
    let g4 = c.column_down-rights in
    let g5 = c.column_down in
    ap (λ z. pointing z t) (columns-down t a.reach g1.result g2.result g3.result g4.result g5.result t.coordinates g1.new.coordinates g2.new.coordinates g3.new.coordinates g4.new.coordinates g5.new.coordinates g1.ensures g2.ensures g3.ensures g4.ensures g5.ensures).1
