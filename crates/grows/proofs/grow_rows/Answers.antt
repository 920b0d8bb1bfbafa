-- `grows::grow_rows` meets its contract: each row is grown as the definition says. Assumes nothing.
use Rattle.std.proofs.Common.{◌≡◌, ◌∙◌, ap, rules}
use Rattle.row_tests.proofs.Tables.{table-room}
use Rattle.grows.specs.Growing.{grows_at}
use Rattle.grows.proofs.Lists.{grows-lent}
use Rattle.grows.proofs.grow_rows.Goals as goal

pub each_row-requires-clause-room : goal.each_row-requires-clause-room
each_row-requires-clause-room c = table-room 1024 c.args.s c.args.t.now c.requires.counts

pub each_row-requires-clause-takes_rows : goal.each_row-requires-clause-takes_rows
each_row-requires-clause-takes_rows c = λ i k w e.
    let a = c.args in
    let q = grows-lent a.next a.cut.now a.s a.k a.t.now c.requires i k w.now e in
    search rules

pub returns : goal.returns
returns c =
    let a = c.args in
    c.each_row.ensures (grows_at a.next a.cut.now a.k)
    (λ i k w v e p.
    let q : v.now ≡ grows_at a.next a.cut.now a.k w.now = search rules in
    q ∙ ap (grows_at a.next a.cut.now a.k) e)
