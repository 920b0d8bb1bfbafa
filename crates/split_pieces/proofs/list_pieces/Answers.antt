-- `split_pieces::list_pieces` meets its contract. The invariant: the pieces of the marked boundaries before row x are written.
use mathlib.Core.Logic.{⊎_elim}
use Prim.Native.Nat.{◌-◌, ◌≤◌}
use native.Mathlib.Omega.{arith}
use Rattle.tables.specs.View.{word}
use Rattle.lookup.proofs.Laws.{sorted-room, sorted-few, sorted-row}
use Rattle.split_pieces.proofs.Listed.{Listed, list-begins, list_length, list-none, list-may, list-room, list-one, list-ends}
use Rattle.split_pieces.proofs.list_pieces.Goals as goal

pub bounds-boundaries-0 : goal.bounds-boundaries-0
bounds-boundaries-0 c = omega (arith, sorted-room 4096 5 c.args.boundaries.now c.requires.0.0.1.0)

pub loop-x-init : goal.loop-x-init
loop-x-init c =
    let a = c.args in
    (omega arith, list-begins a.seen.now a.lanes.now a.boundaries.now a.marks.now a.next a.pieces.now)

pub bounds-marks-x : goal.bounds-marks-x
bounds-marks-x c = omega (arith, c.loop-x-test.true, c.requires.0.0.1.1)

pub overflow_mul-b : goal.overflow_mul-b
overflow_mul-b c = omega (arith, c.loop-x-test.true, sorted-few 4096 5 c.args.boundaries.now c.requires.0.0.1.0)

pub overflow_add-b : goal.overflow_add-b
overflow_add-b c = omega (arith, c.loop-x-test.true, sorted-few 4096 5 c.args.boundaries.now c.requires.0.0.1.0)

pub offset_bounds-boundaries-x : goal.offset_bounds-boundaries-x
offset_bounds-boundaries-x c = omega (arith, c.loop-x-test.true, sorted-few 4096 5 c.args.boundaries.now c.requires.0.0.1.0)

pub bounds-boundaries-x : goal.bounds-boundaries-x
bounds-boundaries-x c = omega (arith, sorted-row 4096 5 c.args.boundaries.now c.requires.0.0.1.0 c.loop-x.x c.loop-x-test.true)

pub used_beyond-requires : goal.used_beyond-requires
used_beyond-requires c = (c.requires.0.0.0, c.requires.0.1)

pub put_piece-id-requires : goal.put_piece-id-requires
put_piece-id-requires c =
    let a = c.args in
    let t = c.loop-x in
    let l = c.loop-x-test.true in
    let k = c.used_beyond in (
      list-room a.seen.now a.lanes.now a.boundaries.now a.marks.now a.next a.pieces.now t.x t.m t.id t.pieces t.invariant.1 l c.requires.0.0.1.1 c.if-marks-x.true k.result k.ensures c.requires.1.1,
      list-may a.seen.now a.lanes.now a.boundaries.now a.marks.now a.next a.pieces.now t.x t.m t.id t.pieces t.invariant.1 l c.requires.0.0.1.1 c.if-marks-x.true k.result k.ensures c.requires.1.0,
    )

pub overflow_add-m : goal.overflow_add-m
overflow_add-m c = omega (arith, c.loop-x.invariant.1.few, c.loop-x-test.true, sorted-few 4096 5 c.args.boundaries.now c.requires.0.0.1.0)

pub loop-x-preserved : goal.loop-x-preserved
loop-x-preserved c =
    let a = c.args in
    let p = c.requires in
    let t = c.loop-x in
    let l = c.loop-x-test.true in
    elim c.if-marks-x.branch [
      | goal.then-marks-x s ↦
          let w = list-one a.seen.now a.lanes.now a.boundaries.now a.marks.now a.next a.pieces.now t.x t.m t.id t.pieces t.invariant.1 l p.0.0.1.1 s.if-marks-x.true s.used_beyond.result s.used_beyond.ensures p.1.1 s.put_piece-id.result s.put_piece-id.new.pieces s.put_piece-id.ensures in
          (omega (arith, l), rw (s.pieces-is, s.id-is, s.m-is) w)
      | goal.else-marks-x s ↦
          let w = list-none a.seen.now a.lanes.now a.boundaries.now a.marks.now a.next a.pieces.now t.x t.m t.id t.pieces t.invariant.1 l p.0.0.1.1 s.if-marks-x.false in
          (omega (arith, l), rw (s.pieces-is, s.id-is, s.m-is) w)
    ]

pub shape_of-pieces : goal.shape_of-pieces
shape_of-pieces c =
    let a = c.args in
    let t = c.loop-x in
    list_length a.seen.now a.lanes.now a.boundaries.now a.marks.now a.next a.pieces.now t.x t.m t.id t.pieces t.invariant.1 c.requires.1.1

pub returns : goal.returns
returns c =
    let a = c.args in
    let t = c.loop-x in
    list-ends a.seen.now a.lanes.now a.boundaries.now a.marks.now a.next a.pieces.now t.x t.m t.id t.pieces t.invariant.1 c.loop-x-test.false
