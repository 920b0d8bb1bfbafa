-- `merge_tables::merge_rows` meets its contract: each row is changed as the definition says. Assumes nothing.
use Rattle.std.proofs.Common.{◌≡◌, ◌∙◌, ap, rules}
use Rattle.row_tests.proofs.Tables.{table-room}
use Rattle.merge_draw.specs.Redrawing.{row_merged}
use Rattle.merge_draw.proofs.Lanes.{row-asks}
use Rattle.merge_tables.proofs.merge_rows.Goals as goal

pub each_row-requires-clause-room : goal.each_row-requires-clause-room
each_row-requires-clause-room c = table-room 1024 52 c.args.t.now c.requires.0.counts

pub each_row-requires-clause-takes_rows : goal.each_row-requires-clause-takes_rows
each_row-requires-clause-takes_rows c = λ i k w e.
    let q = row-asks c.args.t.now c.args.successors.now c.requires.0 c.requires.1 i k w.now e in
    search rules

pub returns : goal.returns
returns c =
    let a = c.args in
    c.each_row.ensures (row_merged a.first a.second a.taken a.successors.now)
    (λ i k w v e p.
    let q : v.now ≡ row_merged a.first a.second a.taken a.successors.now w.now = search rules in
    q ∙ ap (row_merged a.first a.second a.taken a.successors.now) e)
