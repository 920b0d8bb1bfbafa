-- `line_sample::lines`: the floats that were read of a line are its front. Assumes nothing.
use lib.ListN.{length-take}
use native.Mathlib.Omega.{arith}
use Rattle.line_sample.proofs.lines.Goals as goal

pub slice_bounds-turns-end-2 : goal.slice_bounds-turns-end-2
slice_bounds-turns-end-2 c = simp length-take (omega arith)

pub slice_bounds-turns-end-4 : goal.slice_bounds-turns-end-4
slice_bounds-turns-end-4 c = simp length-take (omega arith)
