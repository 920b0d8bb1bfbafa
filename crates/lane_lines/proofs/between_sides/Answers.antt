-- `lane_lines::between_sides` meets its contract: both sides are read back from where they were written. Assumes nothing.
use Rattle.std.specs.Prelude.{Option, Some}
use mathlib.Core.Path.{◌≡◌, ◌∙◌, sym}
use mathlib.Core.List.{List}
use Prim.Native.Nat.{ℕ, ◌*◌, ◌≤◌}
use native.Mathlib.Omega.{arith}
use lib.Ieee.{Float}
use lib.ListN.{length, take}
use lib.Seq.{length-take-le}
use Rattle.polyline.specs.Polyline.{points}
use Rattle.entities.specs.Records.{Line}
use Rattle.rules.specs.Names.{Side, Left, Right}
use Rattle.rules.specs.Map.{oriented_boundary}
use Rattle.tables.specs.View.{lane_of}
use Rattle.lookup.specs.Lookup.{row_at, drawn, count_of, points_or}
use Rattle.lookup.proofs.Laws.{written_none}
use Rattle.lookup.proofs.Center.{count_none, oriented-few, side-length, side-small, side-there, side-few, left-absent, right-absent, center_room, center_empty, center_some}
use Rattle.lane_lines.proofs.between_sides.Goals as goal
use Rattle.lane_lines.proofs.between_sides.Goals.{After-oriented_boundary-r}

-- a side of the lane, and what was written of both
abbrev side_of : After-oriented_boundary-r → Side → Option Line
side_of c side = oriented_boundary (drawn c.args.map.coordinates.now c.args.map.boundaries.now) side (lane_of c.args.map.coordinates.now (row_at 52 c.args.map.lanes.now c.args.i))

abbrev leftOut : After-oriented_boundary-r → List Float
leftOut c = c.oriented_boundary-l.new.out

abbrev rightOut : After-oriented_boundary-r → List Float
rightOut c = c.oriented_boundary-r.new.out

few : (c : After-oriented_boundary-r) (side : Side) → length (points_or (side_of c side)) ≤ 256
few c side = oriented-few c.args.map.coordinates.now c.args.map.boundaries.now (row_at 52 c.args.map.lanes.now c.args.i) side c.args.map.drawable.boundaries_short

left-long : (c : After-oriented_boundary-r) → length (leftOut c) ≡ length c.args.left.now
left-long c = side-length (side_of c Left) c.args.left.now (leftOut c) (few c Left) c.requires.1.0 c.oriented_boundary-l.ensures.1

right-long : (c : After-oriented_boundary-r) → length (rightOut c) ≡ length c.args.right.now
right-long c = side-length (side_of c Right) c.args.right.now (rightOut c) (few c Right) c.requires.1.1.0 c.oriented_boundary-r.ensures.1

module _ (c : After-oriented_boundary-r) (a : ℕ) (n : Some a ≡ count_of (side_of c Left)) where
  left-small : a ≤ 256
  left-small = side-small (side_of c Left) c.args.left.now (leftOut c) (few c Left) c.requires.1.0 c.oriented_boundary-l.ensures.1 a n

  left_there : side_of c Left ≡ Some (points (take (a * 3) (leftOut c)))
  left_there = side-there (side_of c Left) c.args.left.now (leftOut c) (few c Left) c.requires.1.0 c.oriented_boundary-l.ensures.1 a n

  left_few : length (points (take (a * 3) (leftOut c))) ≤ 256
  left_few = side-few (side_of c Left) c.args.left.now (leftOut c) (few c Left) c.requires.1.0 c.oriented_boundary-l.ensures.1 a n

module _ (c : After-oriented_boundary-r) (a : ℕ) (n : Some a ≡ count_of (side_of c Right)) where
  right-small : a ≤ 256
  right-small = side-small (side_of c Right) c.args.right.now (rightOut c) (few c Right) c.requires.1.1.0 c.oriented_boundary-r.ensures.1 a n

  right_there : side_of c Right ≡ Some (points (take (a * 3) (rightOut c)))
  right_there = side-there (side_of c Right) c.args.right.now (rightOut c) (few c Right) c.requires.1.1.0 c.oriented_boundary-r.ensures.1 a n

  right_few : length (points (take (a * 3) (rightOut c))) ≤ 256
  right_few = side-few (side_of c Right) c.args.right.now (rightOut c) (few c Right) c.requires.1.1.0 c.oriented_boundary-r.ensures.1 a n

pub returns-in_err-a : goal.returns-in_err-a
returns-in_err-a c = let x = written_none _ c.args.out.now (left-absent (side_of (goal.at.returns-in_err-a c).After-oriented_boundary-r Left) (side_of (goal.at.returns-in_err-a c).After-oriented_boundary-r Right) (count_none (side_of (goal.at.returns-in_err-a c).After-oriented_boundary-r Left) (sym c.in_err-a.was ∙ c.oriented_boundary-l.ensures.0))) in
    (c.from_residual.ensures ∙ x.0, (x.1, (c.oriented_boundary-l.ensures.1, c.oriented_boundary-r.ensures.1)))

pub returns-in_err-b : goal.returns-in_err-b
returns-in_err-b c = let x = written_none _ c.args.out.now (right-absent (side_of (goal.at.returns-in_err-b c).After-oriented_boundary-r Left) (side_of (goal.at.returns-in_err-b c).After-oriented_boundary-r Right) (count_none (side_of (goal.at.returns-in_err-b c).After-oriented_boundary-r Right) (sym c.in_err-b.was ∙ c.oriented_boundary-r.ensures.0))) in
    (c.from_residual-in_err-b.ensures ∙ x.0, (x.1, (c.oriented_boundary-l.ensures.1, c.oriented_boundary-r.ensures.1)))

pub overflow_mul-left_end : goal.overflow_mul-left_end
overflow_mul-left_end c = omega (arith, left-small (goal.at.overflow_mul-left_end c).After-oriented_boundary-r c.in_ok-a.a (sym c.in_ok-a.was ∙ c.oriented_boundary-l.ensures.0))

pub overflow_mul-right_end : goal.overflow_mul-right_end
overflow_mul-right_end c = omega (arith, right-small (goal.at.overflow_mul-right_end c).After-oriented_boundary-r c.in_ok-b.b (sym c.in_ok-b.was ∙ c.oriented_boundary-r.ensures.0))

pub slice_bounds-centerline-end : goal.slice_bounds-centerline-end
slice_bounds-centerline-end c = omega (arith, left-small (goal.at.slice_bounds-centerline-end c).After-oriented_boundary-r c.in_ok-a.a (sym c.in_ok-a.was ∙ c.oriented_boundary-l.ensures.0), left-long (goal.at.slice_bounds-centerline-end c).After-oriented_boundary-r, c.requires.1.0)

pub slice_bounds-centerline-end-2 : goal.slice_bounds-centerline-end-2
slice_bounds-centerline-end-2 c = sym (length-take-le (c.in_ok-a.a * 3) (leftOut (goal.at.slice_bounds-centerline-end-2 c).After-oriented_boundary-r) (omega (arith, left-small (goal.at.slice_bounds-centerline-end-2 c).After-oriented_boundary-r c.in_ok-a.a (sym c.in_ok-a.was ∙ c.oriented_boundary-l.ensures.0), left-long (goal.at.slice_bounds-centerline-end-2 c).After-oriented_boundary-r, c.requires.1.0)))

pub slice_bounds-centerline-end-3 : goal.slice_bounds-centerline-end-3
slice_bounds-centerline-end-3 c = omega (arith, right-small (goal.at.slice_bounds-centerline-end-3 c).After-oriented_boundary-r c.in_ok-b.b (sym c.in_ok-b.was ∙ c.oriented_boundary-r.ensures.0), right-long (goal.at.slice_bounds-centerline-end-3 c).After-oriented_boundary-r, c.requires.1.1.0)

pub slice_bounds-centerline-end-4 : goal.slice_bounds-centerline-end-4
slice_bounds-centerline-end-4 c = sym (length-take-le (c.in_ok-b.b * 3) (rightOut (goal.at.slice_bounds-centerline-end-4 c).After-oriented_boundary-r) (omega (arith, right-small (goal.at.slice_bounds-centerline-end-4 c).After-oriented_boundary-r c.in_ok-b.b (sym c.in_ok-b.was ∙ c.oriented_boundary-r.ensures.0), right-long (goal.at.slice_bounds-centerline-end-4 c).After-oriented_boundary-r, c.requires.1.1.0)))

pub centerline-n-requires : goal.centerline-n-requires
centerline-n-requires c = center_room (points (take (c.in_ok-a.a * 3) (leftOut (goal.at.centerline-n-requires c).After-oriented_boundary-r))) (points (take (c.in_ok-b.b * 3) (rightOut (goal.at.centerline-n-requires c).After-oriented_boundary-r))) _ (left_few (goal.at.centerline-n-requires c).After-oriented_boundary-r c.in_ok-a.a (sym c.in_ok-a.was ∙ c.oriented_boundary-l.ensures.0)) (right_few (goal.at.centerline-n-requires c).After-oriented_boundary-r c.in_ok-b.b (sym c.in_ok-b.was ∙ c.oriented_boundary-r.ensures.0)) c.requires.1.1.1

pub returns-then-n-eq0 : goal.returns-then-n-eq0
returns-then-n-eq0 c = let x = center_empty (side_of (goal.at.returns-then-n-eq0 c).After-oriented_boundary-r Left) (side_of (goal.at.returns-then-n-eq0 c).After-oriented_boundary-r Right) (points (take (c.in_ok-a.a * 3) (leftOut (goal.at.returns-then-n-eq0 c).After-oriented_boundary-r))) (points (take (c.in_ok-b.b * 3) (rightOut (goal.at.returns-then-n-eq0 c).After-oriented_boundary-r))) (left_there (goal.at.returns-then-n-eq0 c).After-oriented_boundary-r c.in_ok-a.a (sym c.in_ok-a.was ∙ c.oriented_boundary-l.ensures.0)) (right_there (goal.at.returns-then-n-eq0 c).After-oriented_boundary-r c.in_ok-b.b (sym c.in_ok-b.was ∙ c.oriented_boundary-r.ensures.0)) c.centerline-n.result c.centerline-n.ensures.0 c.args.out.now c.centerline-n.new.out c.centerline-n.ensures.1 c.if-n-eq0.true in
    (x.0, (x.1, (c.oriented_boundary-l.ensures.1, c.oriented_boundary-r.ensures.1)))

pub returns : goal.returns
returns c = let x = center_some (side_of (goal.at.returns c).After-oriented_boundary-r Left) (side_of (goal.at.returns c).After-oriented_boundary-r Right) (points (take (c.in_ok-a.a * 3) (leftOut (goal.at.returns c).After-oriented_boundary-r))) (points (take (c.in_ok-b.b * 3) (rightOut (goal.at.returns c).After-oriented_boundary-r))) (left_there (goal.at.returns c).After-oriented_boundary-r c.in_ok-a.a (sym c.in_ok-a.was ∙ c.oriented_boundary-l.ensures.0)) (right_there (goal.at.returns c).After-oriented_boundary-r c.in_ok-b.b (sym c.in_ok-b.was ∙ c.oriented_boundary-r.ensures.0)) c.centerline-n.result c.centerline-n.ensures.0 c.args.out.now c.centerline-n.new.out c.centerline-n.ensures.1 c.if-n-eq0.false in
    (x.0, (x.1, (c.oriented_boundary-l.ensures.1, c.oriented_boundary-r.ensures.1)))
