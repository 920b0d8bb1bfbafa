-- `split_room::boundary_points` meets its contract. The invariant: the points of the boundaries before number i, of which j are marked, and of those from there
-- on are the whole. Assumes nothing.
use mathlib.Core.Logic.{⊎_elim}
use Prim.Native.Nat.{◌+◌, ◌*◌, ◌≤◌}
use native.Mathlib.Omega.{arith}
use Rattle.split_room.proofs.Points.{bounds-begin, bounds-some, bounds-end, bounds-few, bounds-row, size_few, line-few, kept-own, kept-none, number-rooms, bounds-one, bounds-none}
use Rattle.split_room.proofs.boundary_points.Goals as goal

pub bounds-boundaries-0 : goal.bounds-boundaries-0
bounds-boundaries-0 c = omega (arith, bounds-some c.args.pieces.now c.args.lines.now c.args.marks.now c.args.boundaries.now c.requires)

pub loop-i-init : goal.loop-i-init
loop-i-init c = bounds-begin c.args.pieces.now c.args.lines.now c.args.marks.now c.args.boundaries.now

pub overflow_mul-size : goal.overflow_mul-size
overflow_mul-size c = omega (arith, bounds-few c.args.pieces.now c.args.lines.now c.args.marks.now c.args.boundaries.now c.requires c.loop-i.i c.loop-i.j c.loop-i.points c.loop-i.invariant c.loop-i-test.true)

pub overflow_add-size : goal.overflow_add-size
overflow_add-size c = omega (arith, bounds-few c.args.pieces.now c.args.lines.now c.args.marks.now c.args.boundaries.now c.requires c.loop-i.i c.loop-i.j c.loop-i.points c.loop-i.invariant c.loop-i-test.true)

pub overflow_add-size-in-loop-i : goal.overflow_add-size-in-loop-i
overflow_add-size-in-loop-i c = omega (arith, bounds-few c.args.pieces.now c.args.lines.now c.args.marks.now c.args.boundaries.now c.requires c.loop-i.i c.loop-i.j c.loop-i.points c.loop-i.invariant c.loop-i-test.true)

pub offset_bounds-boundaries-i : goal.offset_bounds-boundaries-i
offset_bounds-boundaries-i c = omega (arith, bounds-few c.args.pieces.now c.args.lines.now c.args.marks.now c.args.boundaries.now c.requires c.loop-i.i c.loop-i.j c.loop-i.points c.loop-i.invariant c.loop-i-test.true)

pub bounds-boundaries-i : goal.bounds-boundaries-i
bounds-boundaries-i c = omega (arith, bounds-row c.args.pieces.now c.args.lines.now c.args.marks.now c.args.boundaries.now c.requires c.loop-i.i c.loop-i.j c.loop-i.points c.loop-i.invariant c.loop-i-test.true)

pub bounds-marks-i : goal.bounds-marks-i
bounds-marks-i c = omega (arith, c.loop-i-test.true, c.requires.marks_there)

pub overflow_mul-at : goal.overflow_mul-at
overflow_mul-at c = omega (arith, bounds-few c.args.pieces.now c.args.lines.now c.args.marks.now c.args.boundaries.now c.requires c.loop-i.i c.loop-i.j c.loop-i.points c.loop-i.invariant c.loop-i-test.true)

pub overflow_add-at : goal.overflow_add-at
overflow_add-at c = omega (arith, bounds-few c.args.pieces.now c.args.lines.now c.args.marks.now c.args.boundaries.now c.requires c.loop-i.i c.loop-i.j c.loop-i.points c.loop-i.invariant c.loop-i-test.true)

pub offset_bounds-pieces-at : goal.offset_bounds-pieces-at
offset_bounds-pieces-at c = omega (arith, bounds-few c.args.pieces.now c.args.lines.now c.args.marks.now c.args.boundaries.now c.requires c.loop-i.i c.loop-i.j c.loop-i.points c.loop-i.invariant c.loop-i-test.true)

pub bounds-pieces-at : goal.bounds-pieces-at
bounds-pieces-at c = omega (arith, number-rooms c.args.pieces.now c.args.lines.now c.args.marks.now c.args.boundaries.now c.requires c.loop-i.i c.loop-i.j c.loop-i.points c.loop-i.invariant c.loop-i-test.true c.if-marks-i.true)

pub offset_bounds-pieces-at-then-marks-i : goal.offset_bounds-pieces-at-then-marks-i
offset_bounds-pieces-at-then-marks-i c = omega (arith, bounds-few c.args.pieces.now c.args.lines.now c.args.marks.now c.args.boundaries.now c.requires c.loop-i.i c.loop-i.j c.loop-i.points c.loop-i.invariant c.loop-i-test.true)

pub bounds-pieces-at-then-marks-i : goal.bounds-pieces-at-then-marks-i
bounds-pieces-at-then-marks-i c = omega (arith, number-rooms c.args.pieces.now c.args.lines.now c.args.marks.now c.args.boundaries.now c.requires c.loop-i.i c.loop-i.j c.loop-i.points c.loop-i.invariant c.loop-i-test.true c.if-marks-i.true)

pub overflow_add-points : goal.overflow_add-points
overflow_add-points c = omega (arith, bounds-few c.args.pieces.now c.args.lines.now c.args.marks.now c.args.boundaries.now c.requires c.loop-i.i c.loop-i.j c.loop-i.points c.loop-i.invariant c.loop-i-test.true, size_few c.args.pieces.now c.args.lines.now c.args.marks.now c.args.boundaries.now c.requires c.loop-i.i c.loop-i.j c.loop-i.points c.loop-i.invariant c.loop-i-test.true)

pub overflow_add-points-then-marks-i : goal.overflow_add-points-then-marks-i
overflow_add-points-then-marks-i c = omega (arith, bounds-few c.args.pieces.now c.args.lines.now c.args.marks.now c.args.boundaries.now c.requires c.loop-i.i c.loop-i.j c.loop-i.points c.loop-i.invariant c.loop-i-test.true)

pub offset_bounds-lines-at : goal.offset_bounds-lines-at
offset_bounds-lines-at c = omega (arith, bounds-few c.args.pieces.now c.args.lines.now c.args.marks.now c.args.boundaries.now c.requires c.loop-i.i c.loop-i.j c.loop-i.points c.loop-i.invariant c.loop-i-test.true)

pub bounds-lines-at : goal.bounds-lines-at
bounds-lines-at c = omega (arith, number-rooms c.args.pieces.now c.args.lines.now c.args.marks.now c.args.boundaries.now c.requires c.loop-i.i c.loop-i.j c.loop-i.points c.loop-i.invariant c.loop-i-test.true c.if-marks-i.true)

pub overflow_add-points-then-marks-i-2 : goal.overflow_add-points-then-marks-i-2
overflow_add-points-then-marks-i-2 c = omega (arith, bounds-few c.args.pieces.now c.args.lines.now c.args.marks.now c.args.boundaries.now c.requires c.loop-i.i c.loop-i.j c.loop-i.points c.loop-i.invariant c.loop-i-test.true)

pub offset_bounds-lines-at-then-marks-i : goal.offset_bounds-lines-at-then-marks-i
offset_bounds-lines-at-then-marks-i c = omega (arith, bounds-few c.args.pieces.now c.args.lines.now c.args.marks.now c.args.boundaries.now c.requires c.loop-i.i c.loop-i.j c.loop-i.points c.loop-i.invariant c.loop-i-test.true)

pub bounds-lines-at-then-marks-i : goal.bounds-lines-at-then-marks-i
bounds-lines-at-then-marks-i c = omega (arith, number-rooms c.args.pieces.now c.args.lines.now c.args.marks.now c.args.boundaries.now c.requires c.loop-i.i c.loop-i.j c.loop-i.points c.loop-i.invariant c.loop-i-test.true c.if-marks-i.true)

pub overflow_add-points-then-marks-i-3 : goal.overflow_add-points-then-marks-i-3
overflow_add-points-then-marks-i-3 c = omega (arith, line-few c.args.pieces.now c.args.lines.now c.args.marks.now c.args.boundaries.now c.requires c.loop-i.i c.loop-i.j c.loop-i.points c.loop-i.invariant c.loop-i-test.true (c.loop-i.j * 3 + 1), line-few c.args.pieces.now c.args.lines.now c.args.marks.now c.args.boundaries.now c.requires c.loop-i.i c.loop-i.j c.loop-i.points c.loop-i.invariant c.loop-i-test.true (c.loop-i.j * 3 + 2))

pub overflow_add-points-then-marks-i-4 : goal.overflow_add-points-then-marks-i-4
overflow_add-points-then-marks-i-4 c =
    let few : c.if-pieces-at.points ≤ 34352398336 = ⊎_elim (λ s. omega (arith, s.points-is, bounds-few c.args.pieces.now c.args.lines.now c.args.marks.now c.args.boundaries.now c.requires c.loop-i.i c.loop-i.j c.loop-i.points c.loop-i.invariant c.loop-i-test.true, size_few c.args.pieces.now c.args.lines.now c.args.marks.now c.args.boundaries.now c.requires c.loop-i.i c.loop-i.j c.loop-i.points c.loop-i.invariant c.loop-i-test.true)) (λ s. omega (arith, s.points-is, bounds-few c.args.pieces.now c.args.lines.now c.args.marks.now c.args.boundaries.now c.requires c.loop-i.i c.loop-i.j c.loop-i.points c.loop-i.invariant c.loop-i-test.true)) c.if-pieces-at.branch-raw in
    omega (arith, line-few c.args.pieces.now c.args.lines.now c.args.marks.now c.args.boundaries.now c.requires c.loop-i.i c.loop-i.j c.loop-i.points c.loop-i.invariant c.loop-i-test.true (c.loop-i.j * 3 + 1), line-few c.args.pieces.now c.args.lines.now c.args.marks.now c.args.boundaries.now c.requires c.loop-i.i c.loop-i.j c.loop-i.points c.loop-i.invariant c.loop-i-test.true (c.loop-i.j * 3 + 2))

pub overflow_add-j : goal.overflow_add-j
overflow_add-j c = omega (arith, bounds-few c.args.pieces.now c.args.lines.now c.args.marks.now c.args.boundaries.now c.requires c.loop-i.i c.loop-i.j c.loop-i.points c.loop-i.invariant c.loop-i-test.true)

pub overflow_add-points-else-marks-i : goal.overflow_add-points-else-marks-i
overflow_add-points-else-marks-i c = omega (arith, bounds-few c.args.pieces.now c.args.lines.now c.args.marks.now c.args.boundaries.now c.requires c.loop-i.i c.loop-i.j c.loop-i.points c.loop-i.invariant c.loop-i-test.true, size_few c.args.pieces.now c.args.lines.now c.args.marks.now c.args.boundaries.now c.requires c.loop-i.i c.loop-i.j c.loop-i.points c.loop-i.invariant c.loop-i-test.true)

pub loop-i-preserved : goal.loop-i-preserved
loop-i-preserved c =
    ⊎_elim
    (λ s. bounds-one c.args.pieces.now c.args.lines.now c.args.marks.now c.args.boundaries.now c.requires c.loop-i.i c.loop-i.j c.loop-i.points c.loop-i.invariant c.loop-i-test.true s.if-marks-i.true s.if-pieces-at.points c.if-marks-i.j c.if-marks-i.points (⊎_elim (λ q. kept-own c.args.pieces.now c.args.lines.now c.args.marks.now c.args.boundaries.now c.requires c.loop-i.i c.loop-i.j c.loop-i.points c.loop-i.invariant c.loop-i-test.true s.if-pieces-at.points q.if-pieces-at.true q.points-is) (λ q. kept-none c.args.pieces.now c.args.lines.now c.args.marks.now c.args.boundaries.now c.requires c.loop-i.i c.loop-i.j c.loop-i.points c.loop-i.invariant c.loop-i-test.true s.if-pieces-at.points q.if-pieces-at.false q.points-is) s.if-pieces-at.branch-raw) s.j-is s.points-is)
    (λ s. bounds-none c.args.pieces.now c.args.lines.now c.args.marks.now c.args.boundaries.now c.requires c.loop-i.i c.loop-i.j c.loop-i.points c.loop-i.invariant c.loop-i-test.true s.if-marks-i.false c.if-marks-i.j c.if-marks-i.points s.j-is s.points-is)
    c.if-marks-i.branch-raw

pub returns : goal.returns
returns c = bounds-end c.args.pieces.now c.args.lines.now c.args.marks.now c.args.boundaries.now c.requires c.loop-i.i c.loop-i.j c.loop-i.points c.loop-i.invariant c.loop-i-test.false
