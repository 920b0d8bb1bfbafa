-- A number as 53 binary digits times an even power of two (`Scaled` of specs/), and what a double's bits stand for (`magnitude`). Assumes nothing.
use Rattle.std.proofs.Common.{◌≡◌, ℕ, ◌+◌, ◌-◌, ◌*◌, ◌/◌, ◌%◌, ◌^◌, ◌<◌, ◌≤◌, sym, ap, ◌∙◌, lt_of_le_of_lt, mul_assoc, mul-le-mul_left, arith, pow-add, eq-eqb, ne_eqb}
use Rattle.root.specs.Steps.{Scaled, magnitude}
use Rattle.root.proofs.Numbers.{halves, pow_lt_back}

-- the odd place kept apart, 52 places apart, and the others halved
pub halved-places : (m p : ℕ) → 52 ≤ p → m * (1 + p % 2) * 2 ^ 52 * 4 ^ ((p - 52) / 2) ≡ m * 2 ^ p
halved-places m p h =
    let k = (p - 52) / 2 in
    let e : 52 + (k + k + p % 2) ≡ p = omega arith in
    let x : (1 + p % 2) * 4 ^ k ≡ 2 ^ (k + k + p % 2) = halves k (p % 2) (omega arith) in
    let y : 2 ^ p ≡ 2 ^ 52 * 2 ^ (k + k + p % 2) = ap (λ (j : ℕ). 2 ^ j) (sym e) ∙ pow-add 2 52 (k + k + p % 2) in
    regroup m (1 + p % 2) (2 ^ 52) (4 ^ k) ∙ ap (λ (z : ℕ). m * (2 ^ 52 * z)) x ∙ ap (λ (z : ℕ). m * z) (sym y)
  where
    regroup : (m b c d : ℕ) → m * b * c * d ≡ m * (c * (b * d))
    regroup m b c d = omega arith

pub scaled : (m p : ℕ) → 2 ^ 52 ≤ m → m < 2 ^ 53 → 1022 ≤ p → p < 3120 → Scaled (m * 2 ^ p) m (p % 2) ((p - 52) / 2)
scaled m p lo hi u v = record {
  value = halved-places m p (omega arith);
  least = lo;
  most = hi;
  bit = omega arith;
  field = omega arith;
}

-- the digits, with the odd place among them
pub scaled-least : {n d o k : ℕ} → Scaled n d o k → 2 ^ 52 ≤ d * (1 + o)
scaled-least s = omega arith

pub scaled-most : {n d o k : ℕ} → Scaled n d o k → d * (1 + o) ≤ 2 ^ 54 - 2
scaled-most {d = d} s = omega (arith, mul-le-mul_left d s.bit)

-- of j places moved below 52 a number of 52 digits has used fewer
pub fewer : (j m : ℕ) → 2 ^ j ≤ m → m < 2 ^ 52 → j < 52
fewer j m h k = pow_lt_back j 52 (lt_of_le_of_lt h k)

-- one more place moved
pub moved : (m p : ℕ) → p ≤ 1074 → 1 ≤ p → 2 ^ (1074 - p) ≤ m → 2 ^ (1074 - (p - 1)) ≤ m * 2
moved m p h k l =
    let e : 1074 - (p - 1) ≡ 1074 - p + 1 = omega arith in
    rw (e, pow-add 2 (1074 - p) 1) (omega arith)

-- ---- what the bits stand for

pub magnitude-low : (b : ℕ) → b / 2 ^ 52 ≡ 0 → magnitude b ≡ b % 2 ^ 52
unfolding magnitude
magnitude-low b h = rw (eq-eqb (b / 2 ^ 52) 0 h)

pub magnitude-high : (b : ℕ) → (b / 2 ^ 52 ≡ 0 → ⊥) → magnitude b ≡ (b % 2 ^ 52 + 2 ^ 52) * 2 ^ (b / 2 ^ 52 - 1)
unfolding magnitude
magnitude-high b h = rw (ne_eqb (b / 2 ^ 52) 0 h)

pub joined : (m p f : ℕ) → 1 ≤ f → m * 2 ^ (p + f - 1) ≡ m * 2 ^ (f - 1) * 2 ^ p
joined m p f h =
    let e : p + f - 1 ≡ f - 1 + p = omega arith in
    ap (λ (x : ℕ). m * 2 ^ x) e ∙ ap (λ (x : ℕ). m * x) (pow-add 2 (f - 1) p) ∙ sym (mul_assoc m (2 ^ (f - 1)) (2 ^ p))
