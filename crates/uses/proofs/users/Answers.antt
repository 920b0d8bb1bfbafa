-- `uses::users` meets its contract. The invariant: the count is that of the lanes before i. Assumes nothing.
use mathlib.Core.Path.{refl, ◌∙◌}
use mathlib.Core.Logic.{⊎_elim}
use native.Mathlib.Omega.{arith}
use Rattle.lists.specs.Select.{keep}
use Rattle.lookup.proofs.Laws.{sorted-room, sorted-few, user_more, user_none, users-all}
use Rattle.uses.proofs.users.Goals as goal

pub bounds-lanes-0 : goal.bounds-lanes-0
bounds-lanes-0 c = omega (arith, sorted-room 1024 52 c.args.lanes.now c.requires)

pub loop-i-init : goal.loop-i-init
unfolding keep
loop-i-init c = (omega arith, (omega arith, refl))

pub row_uses-requires : goal.row_uses-requires
row_uses-requires c = (c.requires, c.loop-i-test.true)

pub overflow_add-count : goal.overflow_add-count
overflow_add-count c = omega (arith, c.loop-i-test.true, sorted-few 1024 52 c.args.lanes.now c.requires)

pub loop-i-preserved : goal.loop-i-preserved
loop-i-preserved c =
    let a = c.args in
    let t = c.loop-i in
    let u = c.row_uses in
    let l = c.loop-i-test.true in
    ⊎_elim
    (λ s. (omega arith, (omega arith, s.count-is ∙ user_more a.lanes.now a.boundary t.i t.count l t.invariant.1.1 u.result u.ensures s.if-row_uses.true)))
    (λ s. (omega arith, (omega arith, s.count-is ∙ user_none a.lanes.now a.boundary t.i t.count l t.invariant.1.1 u.result u.ensures s.if-row_uses.false)))
    c.if-row_uses.branch-raw

pub returns : goal.returns
returns c = users-all c.args.lanes.now c.args.boundary c.loop-i.i c.loop-i.count (omega (arith, c.loop-i-test.false)) c.loop-i.invariant.1.1
