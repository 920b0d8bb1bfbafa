-- `group::lateral_group` meets its contract. The invariant: what is marked was reached, each row marked stands in the queue, and the slots of
use mathlib.Core.Path.{refl, sym, ◌∙◌}
use Prim.Native.Nat.{ℕ}
use native.Mathlib.Omega.{arith}
use mathlib.Core.Logic.{inl, inr}
use lib.ListN.{replicate, length-replicate}
use Rattle.group.proofs.Steps.{may-first, begun, walk-fits, row_in, may-left, may-right, queue-stays, turned, ended}
use Rattle.group.proofs.lateral_group.Goals as goal

pub enter-end-requires : goal.enter-end-requires
enter-end-requires c =
    let u = c in
    may-first u.args.lanes.now u.requires.0 u.args.i u.requires.1.0 u.args.seen.now (replicate 1024 0) u.requires.1.1.0 u.requires.1.1.1 (length-replicate {A = ℕ} 1024 0)

pub loop-done-init : goal.loop-done-init
loop-done-init c =
    let u = c in
    let e = c.enter-end in
    begun u.args.lanes.now u.requires.0 u.args.i u.requires.1.0 u.args.seen.now e.new.seen (replicate 1024 0) e.new.queue e.result u.requires.1.1.0 u.requires.1.1.1 (length-replicate {A = ℕ} 1024 0) e.ensures

pub offset_bounds-queue-done : goal.offset_bounds-queue-done
offset_bounds-queue-done c =
    let u = c in
    let t = c.loop-done in
    omega (arith, walk-fits u.args.lanes.now u.requires.0 u.args.i u.requires.1.0 t.seen t.queue t.done t.end t.invariant c.loop-done-test.true)

pub bounds-queue-done : goal.bounds-queue-done
bounds-queue-done c =
    let u = c in
    let t = c.loop-done in
    walk-fits u.args.lanes.now u.requires.0 u.args.i u.requires.1.0 t.seen t.queue t.done t.end t.invariant c.loop-done-test.true

pub slot_row-requires : goal.slot_row-requires
slot_row-requires c =
    let u = c in
    let t = c.loop-done in
    (u.requires.0, (inl refl, row_in u.args.lanes.now u.requires.0 u.args.i u.requires.1.0 t.seen t.queue t.done t.end t.invariant c.loop-done-test.true))

pub slice_bounds-enter-end-in-loop-done : goal.slice_bounds-enter-end-in-loop-done
slice_bounds-enter-end-in-loop-done c = sym c.loop-done.invariant.1.0

pub enter-end-requires-in-loop-done : goal.enter-end-requires-in-loop-done
enter-end-requires-in-loop-done c =
    let u = c in
    let t = c.loop-done in
    may-left u.args.lanes.now u.requires.0 u.args.i u.requires.1.0 t.seen t.queue t.done t.end t.invariant c.slot_row.result c.slot_row.ensures

pub slot_row-requires-in-loop-done : goal.slot_row-requires-in-loop-done
slot_row-requires-in-loop-done c =
    let u = c in
    let t = c.loop-done in
    (u.requires.0, (inr refl, row_in u.args.lanes.now u.requires.0 u.args.i u.requires.1.0 t.seen t.queue t.done t.end t.invariant c.loop-done-test.true))

pub slice_bounds-enter-end-in-loop-done-2 : goal.slice_bounds-enter-end-in-loop-done-2
slice_bounds-enter-end-in-loop-done-2 c =
    let u = c in
    let t = c.loop-done in
    let e = c.enter-end-in-loop-done in
    queue-stays u.args.lanes.now u.requires.0 u.args.i u.requires.1.0 t.seen t.queue t.done t.end t.invariant c.slot_row.result e.new.seen e.new.queue e.result e.ensures

pub enter-end-requires-in-loop-done-2 : goal.enter-end-requires-in-loop-done-2
enter-end-requires-in-loop-done-2 c =
    let u = c in
    let t = c.loop-done in
    let e = c.enter-end-in-loop-done in
    may-right u.args.lanes.now u.requires.0 u.args.i u.requires.1.0 t.seen t.queue t.done t.end t.invariant c.slot_row.result c.slot_row-in-loop-done.result e.new.seen e.new.queue e.result e.ensures c.slot_row-in-loop-done.ensures

pub overflow_add-done : goal.overflow_add-done
overflow_add-done c =
    let u = c in
    let t = c.loop-done in
    omega (arith, walk-fits u.args.lanes.now u.requires.0 u.args.i u.requires.1.0 t.seen t.queue t.done t.end t.invariant c.loop-done-test.true)

pub loop-done-smaller : goal.loop-done-smaller
loop-done-smaller c =
    let u = c in
    let t = c.loop-done in
    omega (arith, walk-fits u.args.lanes.now u.requires.0 u.args.i u.requires.1.0 t.seen t.queue t.done t.end t.invariant c.loop-done-test.true)

pub loop-done-preserved : goal.loop-done-preserved
loop-done-preserved c =
    let u = c in
    let t = c.loop-done in
    let e = c.enter-end-in-loop-done in
    let d = c.enter-end-in-loop-done-2 in
    turned u.args.lanes.now u.requires.0 u.args.i u.requires.1.0 t.seen t.queue t.done t.end t.invariant c.slot_row.result c.slot_row-in-loop-done.result e.new.seen d.new.seen e.new.queue d.new.queue e.result d.result c.loop-done-test.true c.slot_row.ensures c.slot_row-in-loop-done.ensures e.ensures d.ensures

pub shape_of-seen : goal.shape_of-seen
shape_of-seen c = c.loop-done.invariant.0 ∙ sym c.requires.1.1.0

pub returns : goal.returns
returns c =
    let u = c in
    let t = c.loop-done in
    ended u.args.lanes.now u.requires.0 u.args.i u.requires.1.0 t.seen t.queue t.done t.end t.invariant u.args.seen.now u.requires.1.1.0 u.requires.1.1.1 c.loop-done-test.false
