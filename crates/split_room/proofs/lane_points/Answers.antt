-- `split_room::lane_points` meets its contract. The invariant: the points of the lanes before number i, of which r are marked, and of those from there on are
-- the whole. Assumes nothing.
use mathlib.Core.Logic.{⊎_elim}
use Prim.Native.Nat.{◌+◌, ◌*◌}
use native.Mathlib.Omega.{arith}
use Rattle.split_room.proofs.Points.{between-begin, between-some, between-end, between-few, between-row, center_few, measure-few, centers-at, between-one, between_none}
use Rattle.split_room.proofs.lane_points.Goals as goal

pub bounds-lanes-0 : goal.bounds-lanes-0
bounds-lanes-0 c = omega (arith, between-some c.args.centers.now c.args.seen.now c.args.lanes.now c.requires)

pub loop-i-init : goal.loop-i-init
loop-i-init c = between-begin c.args.centers.now c.args.seen.now c.args.lanes.now

pub bounds-seen-i : goal.bounds-seen-i
bounds-seen-i c = omega (arith, c.loop-i-test.true, c.requires.marks_there)

pub overflow_mul-at : goal.overflow_mul-at
overflow_mul-at c = omega (arith, between-few c.args.centers.now c.args.seen.now c.args.lanes.now c.requires c.loop-i.i c.loop-i.r c.loop-i.points c.loop-i.invariant c.loop-i-test.true)

pub overflow_add-points : goal.overflow_add-points
overflow_add-points c = omega (arith, between-few c.args.centers.now c.args.seen.now c.args.lanes.now c.requires c.loop-i.i c.loop-i.r c.loop-i.points c.loop-i.invariant c.loop-i-test.true)

pub offset_bounds-centers-at : goal.offset_bounds-centers-at
offset_bounds-centers-at c = omega (arith, between-few c.args.centers.now c.args.seen.now c.args.lanes.now c.requires c.loop-i.i c.loop-i.r c.loop-i.points c.loop-i.invariant c.loop-i-test.true)

pub bounds-centers-at : goal.bounds-centers-at
bounds-centers-at c = omega (arith, centers-at c.args.centers.now c.args.seen.now c.args.lanes.now c.requires c.loop-i.i c.loop-i.r c.loop-i.points c.loop-i.invariant c.loop-i-test.true c.if-seen-i.true)

pub overflow_add-points-then-seen-i : goal.overflow_add-points-then-seen-i
overflow_add-points-then-seen-i c = omega (arith, between-few c.args.centers.now c.args.seen.now c.args.lanes.now c.requires c.loop-i.i c.loop-i.r c.loop-i.points c.loop-i.invariant c.loop-i-test.true)

pub offset_bounds-centers-at-then-seen-i : goal.offset_bounds-centers-at-then-seen-i
offset_bounds-centers-at-then-seen-i c = omega (arith, between-few c.args.centers.now c.args.seen.now c.args.lanes.now c.requires c.loop-i.i c.loop-i.r c.loop-i.points c.loop-i.invariant c.loop-i-test.true)

pub bounds-centers-at-then-seen-i : goal.bounds-centers-at-then-seen-i
bounds-centers-at-then-seen-i c = omega (arith, centers-at c.args.centers.now c.args.seen.now c.args.lanes.now c.requires c.loop-i.i c.loop-i.r c.loop-i.points c.loop-i.invariant c.loop-i-test.true c.if-seen-i.true)

pub overflow_add-points-then-seen-i-2 : goal.overflow_add-points-then-seen-i-2
overflow_add-points-then-seen-i-2 c = omega (arith, measure-few c.args.centers.now c.args.seen.now c.args.lanes.now c.requires c.loop-i.i c.loop-i.r c.loop-i.points c.loop-i.invariant c.loop-i-test.true (c.loop-i.r * 3 + 1), measure-few c.args.centers.now c.args.seen.now c.args.lanes.now c.requires c.loop-i.i c.loop-i.r c.loop-i.points c.loop-i.invariant c.loop-i-test.true (c.loop-i.r * 3 + 2))

pub overflow_add-points-then-seen-i-3 : goal.overflow_add-points-then-seen-i-3
overflow_add-points-then-seen-i-3 c = omega (arith, between-few c.args.centers.now c.args.seen.now c.args.lanes.now c.requires c.loop-i.i c.loop-i.r c.loop-i.points c.loop-i.invariant c.loop-i-test.true, measure-few c.args.centers.now c.args.seen.now c.args.lanes.now c.requires c.loop-i.i c.loop-i.r c.loop-i.points c.loop-i.invariant c.loop-i-test.true (c.loop-i.r * 3 + 1), measure-few c.args.centers.now c.args.seen.now c.args.lanes.now c.requires c.loop-i.i c.loop-i.r c.loop-i.points c.loop-i.invariant c.loop-i-test.true (c.loop-i.r * 3 + 2))

pub overflow_add-r : goal.overflow_add-r
overflow_add-r c = omega (arith, between-few c.args.centers.now c.args.seen.now c.args.lanes.now c.requires c.loop-i.i c.loop-i.r c.loop-i.points c.loop-i.invariant c.loop-i-test.true)

pub center_points-points-requires : goal.center_points-points-requires
center_points-points-requires c = between-row c.args.centers.now c.args.seen.now c.args.lanes.now c.requires c.loop-i.i c.loop-i.r c.loop-i.points c.loop-i.invariant c.loop-i-test.true

pub overflow_add-points-else-seen-i : goal.overflow_add-points-else-seen-i
overflow_add-points-else-seen-i c = omega (arith, between-few c.args.centers.now c.args.seen.now c.args.lanes.now c.requires c.loop-i.i c.loop-i.r c.loop-i.points c.loop-i.invariant c.loop-i-test.true, center_few c.args.centers.now c.args.seen.now c.args.lanes.now c.requires c.loop-i.i c.loop-i.r c.loop-i.points c.loop-i.invariant c.loop-i-test.true, c.center_points-points.ensures)

pub loop-i-preserved : goal.loop-i-preserved
loop-i-preserved c =
    ⊎_elim
    (λ s. between-one c.args.centers.now c.args.seen.now c.args.lanes.now c.requires c.loop-i.i c.loop-i.r c.loop-i.points c.loop-i.invariant c.loop-i-test.true s.if-seen-i.true c.if-seen-i.r c.if-seen-i.points s.r-is s.points-is)
    (λ s. between_none c.args.centers.now c.args.seen.now c.args.lanes.now c.requires c.loop-i.i c.loop-i.r c.loop-i.points c.loop-i.invariant c.loop-i-test.true s.if-seen-i.false s.center_points-points.result c.if-seen-i.r c.if-seen-i.points s.center_points-points.ensures s.r-is s.points-is)
    c.if-seen-i.branch-raw

pub returns : goal.returns
returns c = between-end c.args.centers.now c.args.seen.now c.args.lanes.now c.requires c.loop-i.i c.loop-i.r c.loop-i.points c.loop-i.invariant c.loop-i-test.false
