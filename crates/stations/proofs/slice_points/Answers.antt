-- `stations::slice_points` meets its contract. Assumes nothing.
use native.Mathlib.Omega.{arith}
use lib.ListN.{length-append}
use Rattle.polyline.specs.Polyline.{points}
use Rattle.polyline.proofs.Points.{length-points}
use Rattle.polyline.proofs.Lines.{optional-few, length-between, slice-short, slice_empty, slice-whole}
use Rattle.stations.proofs.slice_points.Goals as goal

pub returns-then-count-lt2 : goal.returns-then-count-lt2
returns-then-count-lt2 c =
    let e = slice-short (points c.args.line.now) c.args.from c.args.to (omega (arith, c.count.ensures)) in
    rw (e, ← c.length-len.ensures, ← c.clamp-a.ensures, ← c.point_at.ensures) c.optional_points.ensures

pub returns-then-b-a : goal.returns-then-b-a
returns-then-b-a c =
    let t = rw (c.clamp-b.ensures, c.clamp-a.ensures, c.length-len.ensures) at c.if-b-a.true in
    let e = slice_empty (points c.args.line.now) c.args.from c.args.to (omega (arith, c.count.ensures)) t in
    rw (e, ← c.length-len.ensures, ← c.clamp-a.ensures, ← c.point_at-then-b-a.ensures) c.optional_points-then-b-a.ensures

pub overflow_add-result : goal.overflow_add-result
overflow_add-result c =
    omega (
      arith,
      c.between_points.ensures,
      c.optional_points-3.ensures,
      optional-few c.point_at-3.result,
      length-between c.clamp-a.result c.clamp-b.result (points c.args.line.now),
      length-points c.args.line.now,
      c.well_formed.0,
    )

pub overflow_add-result-2 : goal.overflow_add-result-2
overflow_add-result-2 c =
    omega (
      arith,
      c.between_points.ensures,
      c.optional_points-3.ensures,
      optional-few c.point_at-3.result,
      c.optional_points-2.ensures,
      optional-few c.point_at-2.result,
      length-between c.clamp-a.result c.clamp-b.result (points c.args.line.now),
      length-points c.args.line.now,
      c.well_formed.0,
    )

pub returns : goal.returns
returns c =
    let t = rw (c.clamp-b.ensures, c.clamp-a.ensures, c.length-len.ensures) at c.if-b-a.false in
    let e = slice-whole (points c.args.line.now) c.args.from c.args.to (omega (arith, c.count.ensures, c.if-count-lt2.false)) t in
    rw (
      e,
      ← c.length-len.ensures,
      ← c.clamp-a.ensures,
      ← c.clamp-b.ensures,
      ← c.point_at-2.ensures,
      ← c.point_at-3.ensures,
      length-append,
      length-append,
      ← c.optional_points-2.ensures,
      ← c.between_points.ensures,
      ← c.optional_points-3.ensures,
    )
