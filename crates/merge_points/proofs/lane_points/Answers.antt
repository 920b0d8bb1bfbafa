-- `merge_points::lane_points` meets its contract: each row counts what the definition says, and few. Assumes nothing.
use Rattle.std.proofs.Common.{◌≡◌, ◌≤◌, rules, arith}
use Rattle.tables.specs.View.{word}
use Rattle.lookup.specs.Lookup.{row_at}
use Rattle.lookup.proofs.Laws.{sorted-few, sorted-room}
use Rattle.merge_gone.specs.Leaving.{center_after, lane_points}
use Rattle.merge_gone.proofs.Points.{center_few}
use Rattle.merge_points.proofs.lane_points.Goals as goal

pub rows_sum-requires-clause-room : goal.rows_sum-requires-clause-room
rows_sum-requires-clause-room c = let t = c.args.lanes.now in let k : word 0 t ≤ 4096 = omega (arith, sorted-few 1024 52 t c.requires.0) in (k, sorted-room 1024 52 t c.requires.0)

pub rows_sum-requires-clause-few : goal.rows_sum-requires-clause-few
rows_sum-requires-clause-few c = λ i k n says.
    let a = c.args in
    let e : n ≡ center_after a.first a.second a.center (row_at 52 a.lanes.now i) = search rules in
    omega (arith, e, center_few a.first a.second a.center a.lanes.now c.requires.1.0 c.requires.1.1 i k)

pub returns : goal.returns
unfolding lane_points
returns c = let a = c.args in (c.rows_sum.ensures.sum (center_after a.first a.second a.center) (λ w n l says. search rules), omega (arith, c.rows_sum.ensures.few, sorted-few 1024 52 a.lanes.now c.requires.0))
