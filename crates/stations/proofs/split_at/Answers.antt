-- `stations::split_at` meets its contract: the second piece is written in the part behind the first. Assumes nothing.
use Prim.Native.Nat.{◌*◌}
use native.Mathlib.Omega.{arith}
use lib.ListN.{length}
use Rattle.polyline.proofs.Lines.{writes-part}
use borrow.Rule.Slice.PartMut.{mid_len}
use native.Mathlib.Nat.{le_refl}
use Rattle.geometry.specs.Float.{zeroᶠ}
use Rattle.polyline.specs.Polyline.{points, line_length, slice, first_piece, second_piece}
use Rattle.stations.proofs.split_at.Goals as goal

pub put_slice-first-requires : goal.put_slice-first-requires
unfolding first_piece
put_slice-first-requires c = (c.length-len.ensures, (rw (← c.clamp.ensures) c.point_at-start.ensures, (rw (← c.clamp-2.ensures) c.point_at-cut.ensures, omega (arith, c.requires))))

pub overflow_mul-behind : goal.overflow_mul-behind
unfolding first_piece
overflow_mul-behind c = omega (arith, c.put_slice-first.ensures.0, c.requires, c.well_formed.1.1.0.0)

pub offset_bounds-out-behind : goal.offset_bounds-out-behind
unfolding first_piece
offset_bounds-out-behind c = omega (arith, c.put_slice-first.ensures.0, c.requires, c.well_formed.1.1.0.1)

pub slice_bounds-put_slice-count : goal.slice_bounds-put_slice-count
unfolding first_piece
slice_bounds-put_slice-count c = omega (arith, c.put_slice-first.ensures.0, c.put_slice-first.auto.out, c.requires)

pub slice_bounds-put_slice-start : goal.slice_bounds-put_slice-start
unfolding first_piece
slice_bounds-put_slice-start c = omega (arith, c.put_slice-first.ensures.0, c.put_slice-first.auto.out, c.requires)

pub put_slice-second-requires : goal.put_slice-second-requires
unfolding first_piece second_piece
put_slice-second-requires c =
    let w = c.put_slice-first.new.out in (
      c.length-len.ensures,
      (
        rw (← c.clamp-2.ensures) c.point_at-cut.ensures,
        (
          rw (← c.clamp-3.ensures) c.point_at-end.ensures,
          rw c.length-len.ensures
              (omega (arith, mid_len (c.put_slice-first.result * 3) (length w) w (le_refl (length w)), c.put_slice-first.ensures.0, c.put_slice-first.auto.out, c.requires)),
        ),
      ),
    )

pub returns : goal.returns
unfolding first_piece second_piece
returns c =
    let ps = points c.args.line.now in
    let s = rw c.length-len.ensures at c.put_slice-second.ensures in
    let e = c.put_slice-first.ensures in (
      e.0,
      (
        s.0,
        writes-part c.args.out.now c.put_slice-first.new.out c.put_slice-second.new.out c.put_slice-first.result
            (slice ps zeroᶠ c.args.station) (slice ps c.args.station (line_length ps)) e.0 c.requires e.1 s.1,
      ),
    )
