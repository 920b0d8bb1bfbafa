-- `lists::count_of` meets its contract. The invariant: the count is that of the ids so far. Assumes nothing.
use mathlib.Core.Path.{refl, ◌∙◌}
use Prim.Native.Nat.{◌≤◌, ◌<◌}
use native.Mathlib.Omega.{arith}
use lib.Dec.{eqb}
use lib.ListN.{length, get_or}
use lib.Seq.{take_all}
use borrow.Author.Tests.{eq-eqb, ne_eqb}
use Rattle.lists.specs.Select.{keep}
use Rattle.lists.proofs.Turns.{count-one, count_none}
use Rattle.lists.proofs.count_of.Goals as goal

pub loop-x-init : goal.loop-x-init
unfolding keep
loop-x-init c = (omega arith, refl)

pub loop-x-preserved : goal.loop-x-preserved
loop-x-preserved c =
    let a = c.args in
    let t = c.loop-x in
    let w = a.ids.now in
    let x = get_or w t.x-index 0 in
    let h : t.x-index < length w = omega (arith, c.loop-x-test.true) in
    elim c.if-id-x.branch [
      | goal.then-id-x s ↦ (omega (arith, t.invariant.0, s.count-is), s.count-is ∙ count-one (eqb a.id) w t.x-index t.count 0 h t.invariant.1 (eq-eqb a.id x s.if-id-x.true))
      | goal.else-id-x s ↦ (omega (arith, t.invariant.0, s.count-is), s.count-is ∙ count_none (eqb a.id) w t.x-index t.count 0 h t.invariant.1 (ne_eqb a.id x s.if-id-x.false))
    ]

pub returns : goal.returns
returns c =
    let h : length c.args.ids.now ≤ c.loop-x.x-index = omega (arith, c.loop-x-test.false) in
    rw (take_all c.loop-x.x-index c.args.ids.now h) at c.loop-x.invariant.1
