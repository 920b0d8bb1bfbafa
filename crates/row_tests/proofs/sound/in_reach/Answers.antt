-- `row_tests::sound::in_reach` meets its contract: the points' coordinates are the floats before the last whole point. Assumes nothing.
use mathlib.Core.Path.{ap, sym, ◌∙◌}
use Prim.Native.Nat.{◌*◌}
use native.Mathlib.Omega.{arith}
use lib.Seq.{length-take-le}
use Rattle.polyline.proofs.Points.{length-points}
use Rattle.row_tests.proofs.Reach.{points-reach}
use Rattle.row_tests.proofs.sound.in_reach.Goals as goal

pub overflow_mul-count : goal.overflow_mul-count
overflow_mul-count c = let l = length-points c.args.line.now in omega (arith, c.count.ensures)

pub slice_bounds-all_coordinates-end : goal.slice_bounds-all_coordinates-end
slice_bounds-all_coordinates-end c =
    let l = length-points c.args.line.now in
    sym (length-take-le (c.count.result * 3) c.args.line.now (omega (arith, c.count.ensures)))

pub returns : goal.returns
returns c = let w = c.args.line.now in c.all_coordinates.ensures ∙ points-reach w (c.count.result * 3) (ap (λ n. n * 3) (c.count.ensures ∙ length-points w))
