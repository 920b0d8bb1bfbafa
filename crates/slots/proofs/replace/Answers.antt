-- `slots::replace` meets its contract. The invariant: the ids before i are replaced, and the others are as at entry.
use mathlib.Core.Path.{refl, ap, ◌∙◌}
use mathlib.Core.Bool.{cond}
use mathlib.Core.List.{append-nil}
use Prim.Native.Nat.{ℕ, ◌≤◌, ◌<◌}
use native.Mathlib.Omega.{arith}
use lib.Dec.{eqb}
use lib.ListN.{length, get_or, length-set, drop_of_length-le}
use lib.Seq.{take_all}
use borrow.Author.Tests.{eq-eqb, ne_eqb}
use Rattle.lists.proofs.Turns.{change-step, change-none}
use Rattle.slots.proofs.replace.Goals as goal

pub loop-i-init : goal.loop-i-init
loop-i-init c = (omega arith, (refl, refl))

pub loop-i-preserved : goal.loop-i-preserved
loop-i-preserved c =
    let a = c.args in
    let t = c.loop-i in
    let f : ℕ → ℕ = λ x. cond (eqb x a.from) a.to x in
    let x = get_or t.ids t.i 0 in
    let h : t.i < length a.ids.now = omega arith in
    elim c.if-ids-i.branch [
      | goal.then-ids-i w ↦ (omega arith, (ap length w.ids-is ∙ simp length-set t.invariant.1.0, w.ids-is ∙ change-step f a.ids.now t.ids t.i 0 h t.invariant.1.1 a.to (rw (eq-eqb x a.from w.if-ids-i.true))))
      | goal.else-ids-i w ↦ (omega arith, (ap length w.ids-is ∙ t.invariant.1.0, w.ids-is ∙ change-none f a.ids.now t.ids t.i 0 h t.invariant.1.1 (rw (ne_eqb x a.from w.if-ids-i.false))))
    ]

pub returns : goal.returns
returns c =
    let w = c.args.ids.now in
    let i = c.loop-i.i in
    let h : length w ≤ i = omega arith in
    c.loop-i.invariant.1.1 ∙ rw (take_all i w h, drop_of_length-le w h, append-nil)
