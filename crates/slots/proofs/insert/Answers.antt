-- `slots::insert` meets its contract. The invariant: the ids from i on, each larger than the new one, stand one slot later.
use mathlib.Core.Path.{◌≡◌, refl, sym}
use mathlib.Core.List.{[]}
use Prim.Native.Nat.{◌+◌, ◌≤◌, ◌-◌}
use native.Mathlib.Omega.{arith}
use lib.Dec.{ltb}
use lib.ListN.{length, take, drop, length-set, length-take, drop_of_length-le}
use Rattle.lists.proofs.Every.{all_nil}
use Rattle.lists.proofs.Rows.{over-nil}
use Rattle.lists.proofs.Turns.{room-step, room-found, room-first, room-larger}
use Rattle.slots.proofs.insert.Goals as goal

pub loop-i-init : goal.loop-i-init
loop-i-init c =
    let w = c.args.slots.now in
    let n = c.args.n in
    let l : length (take n w) ≤ n = omega (arith, length-take n w) in
    let d : drop n (take n w) ≡ [] = drop_of_length-le (take n w) l in
    (omega arith, (refl, (rw d (sym (over-nil w (n + 1))), rw d (all_nil (ltb c.args.id)))))

pub shape_of-slots-then-before-id : goal.shape_of-slots-then-before-id
shape_of-slots-then-before-id c = simp length-set c.loop-i.invariant.1.0

pub returns-then-before-id : goal.returns-then-before-id
returns-then-before-id c =
    let s = c in
    let a = s.args in
    let t = c.loop-i in
    let up : t.i - 1 + 1 ≡ t.i = omega arith in
    rw up (room-found a.slots.now t.slots a.n t.i t.invariant.0 s.requires.0 t.invariant.1.1.0 a.id s.requires.1.0 c.loop-i-test.true c.if-before-id.true t.invariant.1.1.1)

pub loop-i-preserved : goal.loop-i-preserved
loop-i-preserved c =
    let s = c in
    let a = s.args in
    let t = c.loop-i in
    let l = c.loop-i-test.true in
    let moved = room-step a.slots.now t.slots a.n t.i t.invariant.0 s.requires.0 t.invariant.1.1.0 l in
    let up : t.i - 1 + 1 ≡ t.i = omega arith in
    let larger = room-larger a.slots.now t.slots a.n t.i t.invariant.0 s.requires.0 t.invariant.1.1.0 a.id s.requires.1.1 l c.if-before-id.false t.invariant.1.1.1 in
    (omega arith, (simp length-set t.invariant.1.0, (rw up (rw up at moved), larger)))

pub shape_of-slots : goal.shape_of-slots
shape_of-slots c = simp length-set c.loop-i.invariant.1.0

pub returns : goal.returns
returns c =
    let s = c in
    let a = s.args in
    let t = c.loop-i in
    room-first a.slots.now t.slots a.n t.i t.invariant.0 s.requires.0 t.invariant.1.1.0 a.id (omega arith) t.invariant.1.1.1
