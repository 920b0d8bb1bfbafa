-- `grows::grow_list` meets its contract. Assumes nothing.
use mathlib.Core.Path.{ap}
use Rattle.grows.proofs.Lists.{grow-may, list_grew}
use Rattle.grows.proofs.grow_list.Goals as goal

pub grow-grown-requires : goal.grow-grown-requires
grow-grown-requires c =
    let s = c in
    grow-may s.args.next s.args.cut.now s.args.k s.args.row.now s.requires

pub returns : goal.returns
returns c =
    let s = c in
    let g = c.grow-grown in
    list_grew s.args.next s.args.cut.now s.args.k s.args.row.now s.requires g.new.slots g.result.count (ap (λ r. r.count) g.ensures.0) g.ensures.1
