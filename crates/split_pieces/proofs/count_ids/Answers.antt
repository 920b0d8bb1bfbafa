-- `split_pieces::count_ids` meets its contract. The invariant: the ids of the marked boundaries before row x are counted.
use mathlib.Core.Logic.{⊎_elim}
use Prim.Native.Nat.{◌-◌, ◌≤◌}
use native.Mathlib.Omega.{arith}
use Rattle.tables.specs.View.{word}
use Rattle.lookup.proofs.Laws.{sorted-room, sorted-few, sorted-row}
use Rattle.split_pieces.proofs.Listed.{Counted, count-begins, count_none, count-one, count-ends}
use Rattle.split_pieces.proofs.count_ids.Goals as goal

pub bounds-boundaries-0 : goal.bounds-boundaries-0
bounds-boundaries-0 c = omega (arith, sorted-room 4096 5 c.args.boundaries.now c.requires.0.1.0)

pub loop-x-init : goal.loop-x-init
loop-x-init c =
    let a = c.args in
    (omega arith, count-begins a.seen.now a.lanes.now a.boundaries.now a.marks.now)

pub bounds-marks-x : goal.bounds-marks-x
bounds-marks-x c = omega (arith, c.loop-x-test.true, c.requires.0.1.1)

pub overflow_mul-x : goal.overflow_mul-x
overflow_mul-x c = omega (arith, c.loop-x-test.true, sorted-few 4096 5 c.args.boundaries.now c.requires.0.1.0)

pub overflow_add-x : goal.overflow_add-x
overflow_add-x c = omega (arith, c.loop-x-test.true, sorted-few 4096 5 c.args.boundaries.now c.requires.0.1.0)

pub offset_bounds-boundaries-x : goal.offset_bounds-boundaries-x
offset_bounds-boundaries-x c = omega (arith, c.loop-x-test.true, sorted-few 4096 5 c.args.boundaries.now c.requires.0.1.0)

pub bounds-boundaries-x : goal.bounds-boundaries-x
bounds-boundaries-x c = omega (arith, sorted-row 4096 5 c.args.boundaries.now c.requires.0.1.0 c.loop-x.x c.loop-x-test.true)

pub ids_for-ids-requires : goal.ids_for-ids-requires
ids_for-ids-requires c = (c.requires.0.0, c.requires.1)

pub overflow_add-ids : goal.overflow_add-ids
overflow_add-ids c =
    let a = c.args in
    let t = c.loop-x in
    let f = count-one a.seen.now a.lanes.now a.boundaries.now a.marks.now t.x t.ids t.invariant.1 c.loop-x-test.true c.requires.0.1.1 c.if-marks-x.true c.ids_for-ids.result c.ids_for-ids.ensures in
    omega (arith, f.few, c.loop-x-test.true, sorted-few 4096 5 a.boundaries.now c.requires.0.1.0)

pub loop-x-preserved : goal.loop-x-preserved
loop-x-preserved c =
    let a = c.args in
    let t = c.loop-x in
    let l = c.loop-x-test.true in
    elim c.if-marks-x.branch [
      | goal.then-marks-x s ↦ (omega (arith, l), rw s.ids-is (count-one a.seen.now a.lanes.now a.boundaries.now a.marks.now t.x t.ids t.invariant.1 l c.requires.0.1.1 s.if-marks-x.true s.ids_for-ids.result s.ids_for-ids.ensures))
      | goal.else-marks-x s ↦ (omega (arith, l), rw s.ids-is (count_none a.seen.now a.lanes.now a.boundaries.now a.marks.now t.x t.ids t.invariant.1 l c.requires.0.1.1 s.if-marks-x.false))
    ]

pub returns : goal.returns
returns c =
    let a = c.args in
    let t = c.loop-x in
    (count-ends a.seen.now a.lanes.now a.boundaries.now a.marks.now t.x t.ids t.invariant.1 c.loop-x-test.false, omega (arith, t.invariant.0, t.invariant.1.few, sorted-few 4096 5 a.boundaries.now c.requires.0.1.0))
