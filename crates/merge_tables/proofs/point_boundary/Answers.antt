-- `merge_tables::point_boundary` meets its contract: each row is changed as the definition says. Assumes nothing.
use Rattle.std.proofs.Common.{◌≡◌, ◌∙◌, ap, length, rules}
use Rattle.row_tests.proofs.Tables.{table-room}
use Rattle.merge_draw.specs.Redrawing.{pointed_row}
use Rattle.merge_draw.proofs.Boundaries.{row-long}
use Rattle.merge_tables.proofs.point_boundary.Goals as goal

pub each_row-requires-clause-room : goal.each_row-requires-clause-room
each_row-requires-clause-room c = table-room 4096 5 c.args.t.now c.requires

pub each_row-requires-clause-takes_rows : goal.each_row-requires-clause-takes_rows
each_row-requires-clause-takes_rows c = λ i k w e.
    let t = c.args.t.now in
    let n = ap length e ∙ row-long 5 t i (table-room 4096 5 t c.requires) k in
    search rules

pub returns : goal.returns
returns c =
    let a = c.args in
    c.each_row.ensures (pointed_row a.id a.start a.size)
    (λ i k w v e p.
    let q : v.now ≡ pointed_row a.id a.start a.size w.now = search rules in
    q ∙ ap (pointed_row a.id a.start a.size) e)
