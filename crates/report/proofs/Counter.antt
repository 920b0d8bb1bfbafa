-- The counter behind an answer. Assumes nothing.
use mathlib.Core.Path.{◌≡◌}
use Prim.Native.Nat.{ℕ, ◌+◌}
use native.Mathlib.Omega.{arith}
use borrow.Author.Tests.{ne_eqb}
use Rattle.rules.specs.Sound.{next_id}
use Rattle.rules.specs.Ops.{counter_after}

module _ (counter ids : ℕ) where
  pub counter-stays : ids ≡ 0 → counter ≡ counter_after counter ids
  counter-stays e = rw e

  pub counter-moves : (ids ≡ 0 → ⊥) → counter_after counter ids ≡ next_id counter + ids
  counter-moves n = rw (ne_eqb ids 0 n)

  pub counter-first : counter ≡ 0 → (ids ≡ 0 → ⊥) → ids + 1 ≡ counter_after counter ids
  counter-first z n = let e = counter-moves n in let f : next_id counter ≡ 1 = rw z in omega (arith, e, f)

  pub counter_next : (counter ≡ 0 → ⊥) → (ids ≡ 0 → ⊥) → counter + ids ≡ counter_after counter ids
  counter_next z n = let e = counter-moves n in let f : next_id counter ≡ counter = omega arith in omega (arith, e, f)
