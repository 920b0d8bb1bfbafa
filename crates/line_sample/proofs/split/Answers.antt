-- `line_sample::split` has room for both pieces: each is a slice, whose points were counted. Assumes nothing.
use native.Mathlib.Omega.{arith}
use Rattle.polyline.specs.Polyline.{first_piece, second_piece}
use Rattle.line_sample.proofs.split.Goals as goal

pub split_at-n-requires : goal.split_at-n-requires
unfolding first_piece second_piece
split_at-n-requires c =
    let first = c.slice_points-first.ensures in
    let second = rw c.length.ensures at c.slice_points-second.ensures in
    omega (arith, first, second)
