-- `merge_points::boundary_points` meets its contract: each row counts what the definition says, and few. Assumes nothing.
use Rattle.std.proofs.Common.{◌≡◌, rules, arith}
use Rattle.lookup.specs.Lookup.{row_at}
use Rattle.lookup.proofs.Laws.{sorted-few, sorted-room}
use Rattle.merge_gone.specs.Leaving.{row_points, boundary_points}
use Rattle.merge_gone.proofs.Points.{boundary-few}
use Rattle.merge_points.proofs.boundary_points.Goals as goal

pub rows_sum-requires-clause-room : goal.rows_sum-requires-clause-room
rows_sum-requires-clause-room c = let t = c.args.boundaries.now in (sorted-few 4096 5 t c.requires.0, sorted-room 4096 5 t c.requires.0)

pub rows_sum-requires-clause-few : goal.rows_sum-requires-clause-few
rows_sum-requires-clause-few c = λ i k n says.
    let a = c.args in
    let s = c.requires.1 in
    let e : n ≡ row_points a.gone.now a.sides (row_at 5 a.boundaries.now i) = search rules in
    omega (arith, e, boundary-few a.gone.now a.sides a.boundaries.now s.0 s.1.0 s.1.1 i k)

pub returns : goal.returns
unfolding boundary_points
returns c = let a = c.args in (c.rows_sum.ensures.sum (row_points a.gone.now a.sides) (λ w n l says. search rules), omega (arith, c.rows_sum.ensures.few, sorted-few 4096 5 a.boundaries.now c.requires.0))
