-- `joins::concat` meets its contract: the second line is written behind the first. Assumes nothing.
use mathlib.Core.Path.{ap}
use native.Mathlib.Omega.{arith}
use lib.ListN.{length, drop, length-drop}
use Rattle.polyline.specs.Polyline.{points, skipped, concat}
use Rattle.polyline.proofs.Points.{over-flat}
use Rattle.polyline.proofs.Lines.{skipped-few, length-concat}
use Rattle.joins.proofs.concat.Goals as goal

pub copy_points-requires : goal.copy_points-requires
copy_points-requires c = omega (arith, length-concat c.args.join (points c.args.one.now) (points c.args.other.now), c.requires)

pub copy_points-requires-2 : goal.copy_points-requires-2
copy_points-requires-2 c =
    let e = ap (λ n. length (drop n (points c.args.other.now))) c.shared_ends-skip.ensures in
    omega (
      arith,
      e,
      c.requires,
      c.count-n.ensures,
      c.copy_points.auto.out,
      length-concat c.args.join (points c.args.one.now) (points c.args.other.now),
      length-drop (skipped c.args.join (points c.args.one.now) (points c.args.other.now)) (points c.args.other.now),
    )

pub overflow_sub-result : goal.overflow_sub-result
overflow_sub-result c = omega (arith, c.count.ensures, c.shared_ends-skip.ensures, skipped-few c.args.join (points c.args.one.now) (points c.args.other.now))

pub overflow_add-result : goal.overflow_add-result
overflow_add-result c =
    omega (
      arith,
      c.count.ensures,
      c.count-n.ensures,
      c.shared_ends-skip.ensures,
      c.requires,
      c.well_formed.1.1.1.0.0,
      length-concat c.args.join (points c.args.one.now) (points c.args.other.now),
    )

pub returns : goal.returns
unfolding concat
returns c =
    let ps = points c.args.one.now in
    let qs = points c.args.other.now in
    let l = length-concat c.args.join ps qs in (
      omega (arith, c.count.ensures, c.count-n.ensures, c.shared_ends-skip.ensures, l),
      rw (c.copy_points-2.ensures, c.shared_ends-skip.ensures, c.copy_points.ensures)
          (over-flat c.args.out.now 0 c.count-n.result ps (drop (skipped c.args.join ps qs) qs) (omega (arith, c.count-n.ensures)) (omega (arith, c.requires, l, c.count-n.ensures))),
    )
