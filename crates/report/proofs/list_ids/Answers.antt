-- `report::list_ids` meets its contract. The invariant: the words of the first i entities are written from place `at` on.
use mathlib.Core.Path.{◌≡◌, refl, sym}
use Prim.Native.Nat.{◌-◌, ◌*◌, ◌≤◌}
use native.Mathlib.Omega.{arith}
use lib.ListN.{length, take, length-set}
use Rattle.lists.specs.Rows.{over}
use Rattle.lists.specs.Select.{each}
use Rattle.lists.proofs.Rows.{over-nil}
use Rattle.report.proofs.Laws.{pairs_of, list-step, list-end}
use Rattle.report.proofs.list_ids.Goals as goal

pub loop-i-init : goal.loop-i-init
unfolding each
loop-i-init c =
    (omega arith, (refl, sym (over-nil c.args.out.now (c.args.at * 2))))

pub overflow_add-place : goal.overflow_add-place
overflow_add-place c = omega arith

pub overflow_mul-place : goal.overflow_mul-place
overflow_mul-place c = omega arith

pub offset_bounds-out-place : goal.offset_bounds-out-place
offset_bounds-out-place c = omega arith

pub bounds-out-place : goal.bounds-out-place
bounds-out-place c = omega arith

pub offset_bounds-ids-i : goal.offset_bounds-ids-i
offset_bounds-ids-i c = omega arith

pub bounds-ids-i : goal.bounds-ids-i
bounds-ids-i c = omega arith

pub overflow_add-out : goal.overflow_add-out
overflow_add-out c = omega arith

pub offset_bounds-out-place-in-loop-i : goal.offset_bounds-out-place-in-loop-i
offset_bounds-out-place-in-loop-i c = omega arith

pub bounds-out-place-in-loop-i : goal.bounds-out-place-in-loop-i
bounds-out-place-in-loop-i c = simp length-set (omega arith)

pub loop-i-preserved : goal.loop-i-preserved
loop-i-preserved c =
    let a = c.args in
    let t = c.loop-i in
    (omega arith, (simp length-set t.invariant.1.0, list-step c.from-number.result a.out.now t.out a.ids.now a.at t.i c.loop-i-test.true c.requires t.invariant.1.1))

pub overflow_add-result : goal.overflow_add-result
overflow_add-result c = omega arith

pub shape_of-out : goal.shape_of-out
shape_of-out c = c.loop-i.invariant.1.0

pub returns : goal.returns
returns c =
    let a = c.args in
    let t = c.loop-i in
    (refl, (list-end a.kind c.from-number.result a.out.now t.out a.ids.now a.at t.i c.from-number.ensures t.invariant.0 (omega arith) t.invariant.1.1).1)
