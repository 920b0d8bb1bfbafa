use Rattle.std.specs.Prelude.{◌≤◌, length}
use Rattle.std.proofs.Math.Nat.{min-le_right}
use Rattle.stream.proofs.Tables.{part-told, part-over, part-counts}
use Rattle.stream.proofs.read_table.Goals as goal

pub returns : goal.returns
returns g c =
    let f = g.T.Item.of_word in
    let s = c.args.s.now in
    let from = c.args.from in
    let t = c.args.table.now in
    let n = c.number-n in
    let l = c.min-size in
    let h : l.result ≤ length t = rw l.ensures (min-le_right n.result.value (length t)) in
    let v = c.fill-next in (
      part-told f s from t v.new.table n.result l.result v.result n.ensures l.ensures h v.ensures.0 v.ensures.1,
      (
        part-over f s from t v.new.table n.result l.result v.result n.ensures l.ensures h v.ensures.0 v.ensures.1,
        part-counts f s from t v.new.table n.result l.result v.result n.ensures l.ensures h v.ensures.0 v.ensures.1,
      ),
    )
