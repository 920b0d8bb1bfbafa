-- `slots::remove` meets its contract. The invariant: the first i ids without the one to remove are written over the front.
use mathlib.Core.Path.{◌≡◌, refl, sym, ap, ◌∙◌}
use mathlib.Core.Bool.{Bool, true, not}
use Prim.Native.Nat.{ℕ, ◌<◌}
use native.Mathlib.Omega.{arith}
use lib.Dec.{eqb}
use lib.ListN.{length, get_or, length-set}
use borrow.Author.Tests.{eq-eqb, ne_eqb}
use Rattle.lists.specs.Select.{without, keep}
use Rattle.lists.proofs.Rows.{over-nil}
use Rattle.lists.proofs.Turns.{keep-store, keep-count, keep-not}
use Rattle.slots.proofs.remove.Goals as goal

pub loop-i-init : goal.loop-i-init
unfolding without keep
loop-i-init c = (omega arith, (omega arith, (refl, (refl, sym (over-nil c.args.slots.now 0)))))

pub loop-i-preserved : goal.loop-i-preserved
unfolding without
loop-i-preserved c =
    let a = c.args in
    let t = c.loop-i in
    let w = a.slots.now in
    let p : ℕ → Bool = λ y. not (eqb a.id y) in
    let x = get_or t.slots t.i 0 in
    let h : t.i < length w = omega arith in
    let m = t.invariant.1.1.1.0 in
    let e = t.invariant.1.1.1.1 in
    elim c.if-id-x.branch [
      | goal.then-id-x s ↦
          let k : p x ≡ true = rw (ne_eqb a.id x s.if-id-x.true) in
          (omega arith, (omega arith, (ap length s.slots-is ∙ simp length-set t.invariant.1.1.0, (s.left-is ∙ keep-count p w t.slots t.i t.left 0 h m e k, s.slots-is ∙ keep-store p w t.slots t.i t.left 0 h m e k))))
      | goal.else-id-x s ↦
          let k = keep-not p w t.slots t.i t.left 0 h m e (rw (eq-eqb a.id x s.if-id-x.false)) in
          (omega arith, (omega arith, (ap length s.slots-is ∙ t.invariant.1.1.0, (rw k (s.left-is ∙ m), rw k (s.slots-is ∙ e)))))
    ]

pub returns : goal.returns
returns c =
    let e : c.loop-i.i ≡ c.args.n = omega arith in
    rw e at c.loop-i.invariant.1.1.1
