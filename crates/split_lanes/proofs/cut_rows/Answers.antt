-- `split_lanes::cut_rows` meets its contract: each row is changed as the definition says. Assumes nothing.
use Rattle.std.proofs.Common.{◌≡◌, ◌∙◌, ap, rules}
use Rattle.row_tests.proofs.Tables.{table-room}
use Rattle.split_rows.specs.Halves.{lane_cut}
use Rattle.split_tables.proofs.Halving.{row-asks}
use Rattle.split_lanes.proofs.cut_rows.Goals as goal

pub each_row-requires-clause-room : goal.each_row-requires-clause-room
each_row-requires-clause-room c = table-room 1024 52 c.args.t.now c.requires.1.0

pub each_row-requires-clause-takes_rows : goal.each_row-requires-clause-takes_rows
each_row-requires-clause-takes_rows c = λ i k w e.
    let a = c.args in
    let q = row-asks a.pieces.now a.m a.cut.now a.next a.centers.now a.t.now c.requires.0 c.requires.1.1 i k w.now e in
    search rules

pub returns : goal.returns
returns c =
    let a = c.args in
    c.each_row.ensures (lane_cut a.pieces.now a.m a.cut.now a.next a.centers.now)
    (λ i k w v e p.
    let q : v.now ≡ lane_cut a.pieces.now a.m a.cut.now a.next a.centers.now w.now = search rules in
    q ∙ ap (lane_cut a.pieces.now a.m a.cut.now a.next a.centers.now) e)
