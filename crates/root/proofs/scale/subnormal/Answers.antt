-- `root::scale::subnormal` meets its contract. The invariant: the value stays, and each place moved is a digit more, so that
use Rattle.std.proofs.Common.{◌≡◌, ℕ, ◌-◌, ◌*◌, ◌^◌, ◌<◌, ◌≤◌, refl, subst, arith}
use Rattle.root.specs.Steps.{Scaled}
use Rattle.root.proofs.Numbers.{doubled}
use Rattle.root.proofs.Places.{fewer, moved}
use Rattle.root.proofs.scale.subnormal.Goals as goal

pub loop-m-init : goal.loop-m-init
loop-m-init c = (refl, omega arith)

pub overflow_mul-m : goal.overflow_mul-m
overflow_mul-m c = omega arith

pub overflow_sub-places : goal.overflow_sub-places
overflow_sub-places c = omega arith

pub loop-m-smaller : goal.loop-m-smaller
loop-m-smaller c = omega arith

pub loop-m-preserved : goal.loop-m-preserved
loop-m-preserved c =
    let h = c.loop-m.invariant in
    let f = fewer _ _ h.1.0 c.loop-m-test.true in
    (doubled _ _ _ (omega arith) h.0, (moved _ _ (omega arith) (omega arith) h.1.0, omega arith))

pub halved-requires : goal.halved-requires
halved-requires c = omega arith

pub returns : goal.returns
returns c = subst (λ (n : ℕ). Scaled n c.halved.result.digits c.halved.result.odd c.halved.result.half) c.loop-m.invariant.0 c.halved.ensures
