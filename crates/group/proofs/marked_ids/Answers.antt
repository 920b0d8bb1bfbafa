-- `group::marked_ids` meets its contract. The invariant: the ids of the marked rows before j are written.
use mathlib.Core.Path.{refl, sym, ap, ◌∙◌}
use Prim.Native.Nat.{◌≤◌}
use native.Mathlib.Omega.{arith}
use lib.ListN.{length, drop, length-set}
use lib.Seq.{take_all}
use Rattle.lists.specs.Rows.{over}
use Rattle.lists.proofs.Rows.{over-nil, length-keys}
use Rattle.tables.specs.View.{word}
use Rattle.row_tests.proofs.Lanes.{lanes-some, lane_room}
use Rattle.group.specs.Walk.{ids_of, chosen}
use Rattle.group.proofs.Choose.{choose_one, choose-store, choose-none}
use Rattle.group.proofs.marked_ids.Goals as goal

pub bounds-lanes-0 : goal.bounds-lanes-0
bounds-lanes-0 c = omega (arith, lanes-some c.args.lanes.now c.requires.0)

pub loop-j-init : goal.loop-j-init
unfolding chosen
loop-j-init c = (omega arith, (omega arith, (refl, (refl, sym (over-nil c.args.out.now 0)))))

pub overflow_mul-out : goal.overflow_mul-out
overflow_mul-out c = omega (arith, lane_room c.args.lanes.now c.requires.0 c.loop-j.j c.loop-j-test.true)

pub overflow_add-out : goal.overflow_add-out
overflow_add-out c = omega (arith, lane_room c.args.lanes.now c.requires.0 c.loop-j.j c.loop-j-test.true)

pub offset_bounds-lanes-j : goal.offset_bounds-lanes-j
offset_bounds-lanes-j c = omega (arith, lane_room c.args.lanes.now c.requires.0 c.loop-j.j c.loop-j-test.true)

pub bounds-lanes-j : goal.bounds-lanes-j
bounds-lanes-j c = omega (arith, lane_room c.args.lanes.now c.requires.0 c.loop-j.j c.loop-j-test.true)

pub loop-j-preserved : goal.loop-j-preserved
loop-j-preserved c =
    let u = c in
    let t = c.loop-j in
    let i = t.invariant in
    let b = c.loop-j-test.true in
    let k = i.1.0 in
    elim c.if-seen-j.branch [
      | goal.then-seen-j s ↦
          let one = choose_one u.args.lanes.now u.requires.0 u.args.seen.now u.args.out.now t.out t.j t.count b u.requires.1.0 u.requires.1.1 k i.1.1.1.0 i.1.1.1.1 s.if-seen-j.true in
          let store = choose-store u.args.lanes.now u.requires.0 u.args.seen.now u.args.out.now t.out t.j t.count b u.requires.1.0 u.requires.1.1 k i.1.1.1.0 i.1.1.1.1 s.if-seen-j.true in
          (omega arith, (omega arith, (ap length s.out-is ∙ simp length-set i.1.1.0, (s.count-is ∙ one, s.out-is ∙ store))))
      | goal.else-seen-j s ↦
          let none = choose-none u.args.lanes.now u.requires.0 u.args.seen.now u.args.out.now t.out t.j t.count b u.requires.1.0 u.requires.1.1 k i.1.1.1.0 i.1.1.1.1 s.if-seen-j.false in
          (omega arith, (omega arith, (ap length s.out-is ∙ i.1.1.0, (s.count-is ∙ i.1.1.1.0 ∙ ap length none, s.out-is ∙ i.1.1.1.1 ∙ ap (over u.args.out.now 0) none))))
    ]

pub returns : goal.returns
returns c =
    let u = c in
    let t = c.loop-j in
    let ids = ids_of u.args.lanes.now in
    let h : length ids ≤ t.j = omega (arith, length-keys 52 (word 0 u.args.lanes.now) (drop 1 u.args.lanes.now)) in
    rw (take_all t.j ids h) at t.invariant.1.1.1
