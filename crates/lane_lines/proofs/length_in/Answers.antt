-- `lane_lines::length_in` meets its contract: the centreline is read back from where it was written. Assumes nothing.
use Rattle.std.specs.Prelude.{Option, Some}
use mathlib.Core.Path.{◌≡◌, ◌∙◌, sym}
use mathlib.Core.List.{List}
use Prim.Native.Nat.{ℕ, ◌*◌, ◌≤◌}
use native.Mathlib.Omega.{arith}
use lib.Ieee.{Float}
use lib.ListN.{length, take}
use lib.Seq.{length-take-le}
use Rattle.polyline.specs.Polyline.{points}
use Rattle.entities.specs.Records.{Line}
use Rattle.rules.specs.Map.{centerline}
use Rattle.tables.specs.View.{lane_of}
use Rattle.lookup.specs.Lookup.{row_at, drawn, count_of, points_or}
use Rattle.lookup.proofs.Center.{count_none, lane_center_few, side-length, side-small, side-there, length_none, length_some}
use Rattle.lane_lines.proofs.length_in.Goals as goal
use Rattle.lane_lines.proofs.length_in.Goals.{After-centerline}

-- the centreline, and what was written of it
abbrev center : After-centerline → Option Line
center c = centerline (drawn c.args.map.coordinates.now c.args.map.boundaries.now) (lane_of c.args.map.coordinates.now (row_at 52 c.args.map.lanes.now c.args.i))

abbrev lineOut : After-centerline → List Float
lineOut c = c.centerline.new.out

few : (c : After-centerline) → length (points_or (center c)) ≤ 256
few c = lane_center_few c.args.map.coordinates.now c.args.map.boundaries.now c.args.map.lanes.now c.args.i c.args.map.drawable c.requires.0

module _ (c : After-centerline) (a : ℕ) (n : Some a ≡ count_of (center c)) where
  within : a * 3 ≤ length (lineOut c)
  within = omega (arith, side-small (center c) c.args.line.now (lineOut c) (few c) c.requires.1 c.centerline.ensures.1 a n, side-length (center c) c.args.line.now (lineOut c) (few c) c.requires.1 c.centerline.ensures.1, c.requires.1)

  small : a ≤ 256
  small = side-small (center c) c.args.line.now (lineOut c) (few c) c.requires.1 c.centerline.ensures.1 a n

  there : center c ≡ Some (points (take (a * 3) (lineOut c)))
  there = side-there (center c) c.args.line.now (lineOut c) (few c) c.requires.1 c.centerline.ensures.1 a n

pub returns-in_err-n : goal.returns-in_err-n
returns-in_err-n c = (c.from_residual.ensures ∙ length_none (center (goal.at.returns-in_err-n c).After-centerline) (count_none (center (goal.at.returns-in_err-n c).After-centerline) (sym c.in_err-n.was ∙ c.centerline.ensures.0)), c.centerline.ensures.1)

pub overflow_mul-end : goal.overflow_mul-end
overflow_mul-end c = omega (arith, small (goal.at.overflow_mul-end c).After-centerline c.in_ok-n.n (sym c.in_ok-n.was ∙ c.centerline.ensures.0))

pub slice_bounds-length-end : goal.slice_bounds-length-end
slice_bounds-length-end c = within (goal.at.slice_bounds-length-end c).After-centerline c.in_ok-n.n (sym c.in_ok-n.was ∙ c.centerline.ensures.0)

pub slice_bounds-length-end-2 : goal.slice_bounds-length-end-2
slice_bounds-length-end-2 c = sym (length-take-le (c.in_ok-n.n * 3) (lineOut (goal.at.slice_bounds-length-end-2 c).After-centerline) (within (goal.at.slice_bounds-length-end-2 c).After-centerline c.in_ok-n.n (sym c.in_ok-n.was ∙ c.centerline.ensures.0)))

pub returns : goal.returns
returns c = (length_some (center (goal.at.returns c).After-centerline) (points (take (c.in_ok-n.n * 3) (lineOut (goal.at.returns c).After-centerline))) c.length.result (there (goal.at.returns c).After-centerline c.in_ok-n.n (sym c.in_ok-n.was ∙ c.centerline.ensures.0)) c.length.ensures, c.centerline.ensures.1)
