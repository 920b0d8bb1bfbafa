-- `room::column_points` meets its contract. The invariant: what is counted are the points of the rows before i. Assumes nothing.
use Prim.Native.Nat.{◌+◌, ◌-◌, ◌*◌, ◌≤◌, ◌<◌}
use native.Mathlib.Omega.{arith}
use lib.ListN.{length, get_or}
use Rattle.tables.specs.View.{word}
use Rattle.row_tests.proofs.Tables.{table-some, table-few, row_room}
use Rattle.room.specs.Room.{column_points}
use Rattle.room.proofs.Sums.{Summed, sum-starts, sum-turns, sum-ends, size-read, size_few}
use Rattle.room.proofs.column_points.Goals as goal
use Rattle.room.proofs.column_points.Lts as lts
use Rattle.room.proofs.column_points.Reads as reads

abbrev AtInLoopI : Type 0
AtInLoopI = lts.In-loop reads.Pre reads.Post goal.the-invariant-loop-i goal.the-decreases-loop-i

-- in a turn: the row lies in the table, its line is short, and no more rows than a table has were counted
row : (c : AtInLoopI)
    → 1 + c.loop-i.i * c.args.stride + c.args.stride ≤ length c.args.t.now
row c =
    let s = c in
    row_room 4096 s.args.stride s.args.t.now s.requires.1.1.0 c.loop-i.i c.loop-i-test.true

size : (c : AtInLoopI)
    → get_or c.args.t.now (1 + c.loop-i.i * c.args.stride + c.args.offset + 1) 0 ≤ 256
size c =
    let s = c in
    let m = s.requires.0 in
    size_few s.args.stride s.args.offset s.args.t.now c.loop-i.i s.requires.1.1.1 (omega arith) c.loop-i-test.true

few : (c : AtInLoopI) → c.loop-i.i < 4096
few c =
    let s = c in
    omega (arith, table-few 4096 s.args.stride s.args.t.now s.requires.1.1.0, c.loop-i-test.true)

pub bounds-t-0 : goal.bounds-t-0
bounds-t-0 c = omega (arith, table-some 4096 c.args.stride c.args.t.now c.requires.1.1.0)

pub loop-i-init : goal.loop-i-init
loop-i-init c = sum-starts c.args.stride (word (c.args.offset + 1)) c.args.t.now 256

pub overflow_mul-points : goal.overflow_mul-points
overflow_mul-points c = omega (arith, row c.before, c.well_formed)

pub overflow_add-points : goal.overflow_add-points
overflow_add-points c = omega (arith, row c.before, c.well_formed)

pub overflow_add-points-in-loop-i : goal.overflow_add-points-in-loop-i
overflow_add-points-in-loop-i c = omega (arith, row c.before, c.well_formed)

pub overflow_add-points-in-loop-i-2 : goal.overflow_add-points-in-loop-i-2
overflow_add-points-in-loop-i-2 c = omega (arith, row c.before, c.well_formed)

pub offset_bounds-t-i : goal.offset_bounds-t-i
offset_bounds-t-i c = omega (arith, row c.before, c.well_formed)

pub bounds-t-i : goal.bounds-t-i
bounds-t-i c = omega (arith, row c.before.before, c.well_formed)

pub overflow_add-points-in-loop-i-3 : goal.overflow_add-points-in-loop-i-3
overflow_add-points-in-loop-i-3 c = omega (arith, size c.before.before, few c.before.before, c.loop-i.invariant.few)

pub loop-i-preserved : goal.loop-i-preserved
loop-i-preserved c =
    let a = c.args in
    let l = c.loop-i in
    let w = c.loop-i-test.true in
    let m : a.offset + 2 ≤ a.stride = c.requires.0 in
    let g = word (a.offset + 1) in
    sum-turns a.stride g a.t.now 256 l.i l.points l.invariant (get_or a.t.now (1 + l.i * a.stride + a.offset + 1) 0) w (size-read a.stride a.offset a.t.now l.i (omega arith)) (size c.before.before)

pub returns : goal.returns
unfolding column_points
returns c =
    let a = c.args in
    let l = c.loop-i in
    (sum-ends a.stride (word (a.offset + 1)) a.t.now 256 l.i l.points l.invariant c.loop-i-test.false, omega (arith, l.invariant.few, l.invariant.inside, table-few 4096 a.stride a.t.now c.requires.1.1.0))
