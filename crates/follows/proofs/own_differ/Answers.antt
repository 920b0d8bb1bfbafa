-- `follows::own_differ` meets its contract. The invariant: of the first r cut lanes none changes the list, so one of the others does where one of all does.
-- Assumes nothing.
use mathlib.Core.Path.{◌≡◌, refl, sym, ap, ◌∙◌}
use mathlib.Core.Logic.{⊎_elim}
use mathlib.Core.Bool.{true, false, not, ◌&&◌, cond}
use Prim.Native.Nat.{◌-◌, ◌≤◌}
use native.Mathlib.Omega.{arith}
use lib.ListN.{length, get_or, drop}
use Rattle.lists.specs.Select.{any, has}
use Rattle.tables.specs.View.{ids_at}
use Rattle.follows.specs.Following.{first_place}
use Rattle.follows.proofs.Differs.{any_here, any-on, any-over, differs-behind, differs-by, differs-not}
use Rattle.follows.proofs.own_differ.Goals as goal

pub bounds-row-5 : goal.bounds-row-5
bounds-row-5 c = omega arith

pub overflow_add-from : goal.overflow_add-from
overflow_add-from c = omega arith

pub overflow_add-to : goal.overflow_add-to
overflow_add-to c = omega arith

pub loop-r-init : goal.loop-r-init
loop-r-init c = (omega arith, refl)

pub offset_bounds-row-from : goal.offset_bounds-row-from
offset_bounds-row-from c = omega arith

pub slice_bounds-first_place-count : goal.slice_bounds-first_place-count
slice_bounds-first_place-count c = omega arith

pub slice_bounds-first_place-start : goal.slice_bounds-first_place-start
slice_bounds-first_place-start c = omega arith

pub slice_bounds-first_place-end : goal.slice_bounds-first_place-end
slice_bounds-first_place-end c = omega arith

pub offset_bounds-cut-r : goal.offset_bounds-cut-r
offset_bounds-cut-r c = omega arith

pub bounds-cut-r : goal.bounds-cut-r
bounds-cut-r c = omega arith

pub first_place-p-requires : goal.first_place-p-requires
first_place-p-requires c = omega arith

pub returns-then-not-anchored : goal.returns-then-not-anchored
returns-then-not-anchored c =
    let a = c.args in
    let l = c.loop-r in
    let t = differs-behind a.anchored a.past.now a.row.now c.requires (get_or a.cut.now l.r 0) c.first_place-p.result c.first_place-p.ensures c.if-p-n.true (ap not c.if-not-anchored.true) in
    sym (l.invariant.1 ∙ any_here (λ i. has i (ids_at 5 a.row.now) && cond a.anchored (get_or a.past.now (first_place i (ids_at 5 a.row.now)) false) true) a.cut.now l.r 0 c.loop-r-test.true t)

pub bounds-past-p : goal.bounds-past-p
bounds-past-p c = omega arith

pub returns-then-past-p : goal.returns-then-past-p
returns-then-past-p c =
    let a = c.args in
    let l = c.loop-r in
    let t = differs-by a.anchored a.past.now a.row.now c.requires (get_or a.cut.now l.r 0) c.first_place-p.result c.first_place-p.ensures c.if-p-n.true true (ap not c.if-not-anchored.false) c.if-past-p.true in
    sym (l.invariant.1 ∙ any_here (λ i. has i (ids_at 5 a.row.now) && cond a.anchored (get_or a.past.now (first_place i (ids_at 5 a.row.now)) false) true) a.cut.now l.r 0 c.loop-r-test.true t)

pub loop-r-preserved : goal.loop-r-preserved
loop-r-preserved c =
    let a = c.args in
    let l = c.loop-r in
    let f = c.first_place-p in
    let on = any-on (λ i. has i (ids_at 5 a.row.now) && cond a.anchored (get_or a.past.now (first_place i (ids_at 5 a.row.now)) false) true) a.cut.now l.r 0 c.loop-r-test.true in (
      omega arith,
      l.invariant.1 ∙ on (elim c.if-p-n.branch [
        | goal.then-p-n+else-not-anchored+else-past-p s ↦ differs-by a.anchored a.past.now a.row.now c.requires (get_or a.cut.now l.r 0) f.result f.ensures s.if-p-n.true false (ap not s.if-not-anchored.false) s.if-past-p.false
        | goal.else-p-n s ↦ differs-not a.anchored a.past.now a.row.now c.requires (get_or a.cut.now l.r 0) f.result f.ensures s.if-p-n.false
      ]),
    )

pub returns : goal.returns
returns c =
    let a = c.args in
    let l = c.loop-r in
    sym (l.invariant.1 ∙ any-over (λ i. has i (ids_at 5 a.row.now) && cond a.anchored (get_or a.past.now (first_place i (ids_at 5 a.row.now)) false) true) a.cut.now l.r c.loop-r-test.false)
