-- `root::settle::bisect` meets its contract. Assumes nothing.
use Rattle.std.proofs.Common.{◌≡◌, ℕ, ◌+◌, ◌*◌, sym, ap, ◌∙◌, arith, ltb-false, ltb-true}
use Rattle.root.proofs.settle.+bisect.Goals as goal

pub bisect-requires : goal.bisect-requires
bisect-requires t c = absurd (omega arith)

pub overflow_sub-result : goal.overflow_sub-result
overflow_sub-result t c = absurd (omega arith)

pub returns-then-a-lt-HIDDEN : goal.returns-then-a-lt-HIDDEN
returns-then-a-lt-HIDDEN t c = absurd (omega arith)

pub overflow_mul-high : goal.overflow_mul-high
overflow_mul-high t c = omega arith

pub loop-high-init : goal.loop-high-init
loop-high-init t c = omega arith

pub overflow_sub-high : goal.overflow_sub-high
overflow_sub-high t c = omega arith

pub overflow_sub-middle : goal.overflow_sub-middle
overflow_sub-middle t c = omega arith

pub overflow_add-middle : goal.overflow_add-middle
overflow_add-middle t c = omega arith

pub reaches-requires : goal.reaches-requires
reaches-requires t c = omega arith

pub loop-high-smaller-then-reaches : goal.loop-high-smaller-then-reaches
loop-high-smaller-then-reaches t c = omega arith

pub loop-high-preserved-then-reaches : goal.loop-high-preserved-then-reaches
loop-high-preserved-then-reaches t c =
    let t = sym c.reaches.ensures ∙ c.if-reaches.true in
    omega (arith, ltb-true)

pub loop-high-smaller : goal.loop-high-smaller
loop-high-smaller t c = omega arith

pub loop-high-preserved : goal.loop-high-preserved
loop-high-preserved t c =
    let t = sym c.reaches.ensures ∙ c.if-reaches.false in
    omega (arith, ltb-false)

pub returns : goal.returns
returns t c =
    let next : c.loop-high.high ≡ c.loop-high.low + 1 = omega arith in
    omega (arith, ap (λ (x : ℕ). x * x) next)
