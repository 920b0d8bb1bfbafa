-- `merge_rows::redraw_boundaries` meets its contract: each step leaves the table as long as it was, with rows that are counted. Assumes nothing.
use borrow.Author.Rules.{rules}
use native.Mathlib.Omega.{arith}
use Rattle.row_tests.proofs.Tables.{table-room}
use Rattle.merge_redraw.proofs.BoundaryRows.{left-counts, pointed-counts, first-room, second-room, all-redrawn}
use Rattle.merge_rows.proofs.redraw_boundaries.Goals as goal

pub drop_rows-requires : goal.drop_rows-requires
drop_rows-requires c = (omega arith, table-room 4096 5 c.args.t.now c.requires.counts)

pub point_side-requires : goal.point_side-requires
point_side-requires c =
    let a = c.args in
    left-counts a.gone.now a.left a.right a.t.now c.requires c.drop_rows.new.t c.drop_rows.ensures c.drop_rows.auto.t

pub point_side-requires-2 : goal.point_side-requires-2
point_side-requires-2 c =
    let a = c.args in
    pointed-counts a.gone.now a.left a.right a.t.now c.requires c.drop_rows.new.t c.drop_rows.ensures c.drop_rows.auto.t c.point_side.new.t c.point_side.ensures c.point_side.auto.t

pub add_side-requires : goal.add_side-requires
add_side-requires c =
    let a = c.args in
    first-room a.gone.now a.left a.right a.t.now c.requires c.drop_rows.new.t c.drop_rows.ensures c.drop_rows.auto.t c.point_side.new.t c.point_side.ensures c.point_side.auto.t c.point_side-2.new.t c.point_side-2.ensures c.point_side-2.auto.t

pub add_side-requires-2 : goal.add_side-requires-2
add_side-requires-2 c =
    let a = c.args in
    second-room a.gone.now a.left a.right a.t.now c.requires c.drop_rows.new.t c.drop_rows.ensures c.drop_rows.auto.t c.point_side.new.t c.point_side.ensures c.point_side.auto.t c.point_side-2.new.t c.point_side-2.ensures c.point_side-2.auto.t c.add_side.new.t c.add_side.ensures c.add_side.auto.t

pub returns : goal.returns
returns c =
    let a = c.args in
    all-redrawn a.gone.now a.left a.right a.t.now c.requires c.drop_rows.new.t c.drop_rows.ensures c.drop_rows.auto.t c.point_side.new.t c.point_side.ensures c.point_side.auto.t c.point_side-2.new.t c.point_side-2.ensures c.point_side-2.auto.t c.add_side.new.t c.add_side.ensures c.add_side.auto.t c.add_side-2.new.t c.add_side-2.ensures
