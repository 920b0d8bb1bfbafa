-- `merge_points::points_after` meets its contract. Assumes nothing.
use native.Mathlib.Omega.{arith}
use Prim.Native.Nat.{◌+◌, ◌≤◌, ◌<◌}
use Rattle.room.proofs.Sums.{columns-counted}
use Rattle.merge_plan.proofs.Laws.{id-read}
use Rattle.merge_gone.specs.Leaving.{points_after}
use Rattle.merge_gone.proofs.Points.{new-few}
use Rattle.merge_gone.proofs.Going.{both-rows}
use Rattle.merge_points.proofs.points_after.Goals as goal
use Rattle.merge_points.proofs.points_after.Lts as lts
use Rattle.merge_points.proofs.points_after.Reads as reads
use Rattle.merge_points.proofs.points_after.Tie as tie

abbrev AtAfterNewPoints2 : Type 0
AtAfterNewPoints2 = lts.After-new_points2 tie.the-claims reads.Pre reads.Post

abbrev AtAfterColumnPointsRights : Type 0
AtAfterColumnPointsRights = lts.After-column_points3 tie.the-claims reads.Pre reads.Post

-- the points that are counted are few
new : (c : AtAfterNewPoints2) → c.new_points.result + c.new_points-2.result ≤ 1024
new c =
    let s = c in
    omega (arith, c.new_points.ensures, c.new_points-2.ensures, new-few s.args.sides.left, new-few s.args.sides.right, s.requires.left_few, s.requires.right_few)

all : (c : AtAfterColumnPointsRights)
    → c.boundary_points-old.result + (c.new_points.result + c.new_points-2.result) + c.lane_points-centers.result + c.column_points-stops.result + (c.column_points-lefts.result + c.column_points-rights.result) ≤ 8388608
all c =
    omega (
      arith,
      new c.before.before.before.before,
      c.boundary_points-old.ensures.1,
      c.lane_points-centers.ensures.1,
      c.column_points-stops.ensures.1,
      c.column_points-lefts.ensures.1,
      c.column_points-rights.ensures.1,
    )

pub overflow_mul-first : goal.overflow_mul-first
overflow_mul-first c = omega (arith, both-rows c.requires.leaving)

pub overflow_add-first : goal.overflow_add-first
overflow_add-first c = omega (arith, both-rows c.requires.leaving)

pub offset_bounds-lanes-i : goal.offset_bounds-lanes-i
offset_bounds-lanes-i c = omega (arith, both-rows c.requires.leaving)

pub bounds-lanes-i : goal.bounds-lanes-i
bounds-lanes-i c = omega (arith, both-rows c.requires.leaving)

pub overflow_mul-second : goal.overflow_mul-second
overflow_mul-second c = omega (arith, both-rows c.requires.leaving)

pub overflow_add-second : goal.overflow_add-second
overflow_add-second c = omega (arith, both-rows c.requires.leaving)

pub offset_bounds-lanes-j : goal.offset_bounds-lanes-j
offset_bounds-lanes-j c = omega (arith, both-rows c.requires.leaving)

pub bounds-lanes-j : goal.bounds-lanes-j
bounds-lanes-j c = omega (arith, both-rows c.requires.leaving)

pub overflow_add-new : goal.overflow_add-new
overflow_add-new c = omega (arith, new c.before)

pub column_points-stops-requires : goal.column_points-stops-requires
column_points-stops-requires c = (omega arith, (omega arith, (columns-counted 512 4 c.args.stop_lines.now (omega arith) c.requires.stops_sorted, c.requires.stops_short)))

pub column_points-lefts-requires : goal.column_points-lefts-requires
column_points-lefts-requires c = (omega arith, (omega arith, (columns-counted 128 7 c.args.crosswalks.now (omega arith) c.requires.crosswalks_are_sorted, c.requires.lefts_short)))

pub column_points-rights-requires : goal.column_points-rights-requires
column_points-rights-requires c = (omega arith, (omega arith, (columns-counted 128 7 c.args.crosswalks.now (omega arith) c.requires.crosswalks_are_sorted, c.requires.rights_short)))

pub overflow_add-result : goal.overflow_add-result
overflow_add-result c = omega (arith, all c.before)

pub overflow_add-result-2 : goal.overflow_add-result-2
overflow_add-result-2 c = omega (arith, all c.before)

pub overflow_add-result-3 : goal.overflow_add-result-3
overflow_add-result-3 c = omega (arith, all c.before)

pub overflow_add-result-5 : goal.overflow_add-result-5
overflow_add-result-5 c = omega (arith, all c.before)

pub returns : goal.returns
unfolding points_after
returns c =
    let a = c.args in
    let z : 0 < 52 = omega arith in
    rw (c.boundary_points-old.ensures.0, c.new_points.ensures, c.new_points-2.ensures, c.lane_points-centers.ensures.0, c.column_points-stops.ensures.0, c.column_points-lefts.ensures.0, c.column_points-rights.ensures.0, id-read 52 a.lanes.now a.i z, id-read 52 a.lanes.now a.j z)
