-- How far rounding moves a number up: 2 ^ -29 at most, for a number up to 2 ^ 25. Assumes nothing.
use mathlib.Core.Path.{◌≡◌, refl, ap, ◌∙◌, subst}
use mathlib.Core.Logic.{inl, inr}
use Prim.Native.Nat.{ℕ, ◌+◌, ◌-◌, ◌*◌, ◌/◌, ◌%◌, ◌^◌, ◌≤◌, ◌<◌, compare, Ordering}
use native.Mathlib.Nat.{le_of_eq, lt_of_lt_of_le, eq-or-lt_of_le, mul_right_comm, mul-le-mul_left, mul-le-mul_right, le_of_mul-le-mul_right}
use native.Mathlib.Nat.{mul-lt-mul_of_pos_right, div-add-mod', div-lt_iff_lt-mul}
use native.Mathlib.Omega.{arith}
use mathlib.Core.Bool.{true, false, not}
use lib.IntN.{pos}
use lib.Dec.{T, is_le, compare_is_eq, eqb→eq, nleb→lt, lit<}
use lib.Pow.{pow_pos, pow_mono}
use lib.Ieee.{Float, nan, inf, fin, binary64, up, down, size, nearest, round}
use lib.Ieee.Digits.{size-le}
use lib.Ieee.Exact.{HasValue}
use lib.Ieee.Nearest.{closest}
use lib.Ieee.Order.{drop, kept}
use lib.Ieee.Scale.{finite, grid, round_same, round_val, round_under}
use Rattle.geometry.proofs.Frac.{Frac, whole, ◌≼◌}
use Rattle.geometry.proofs.Compare.{val, Le, Le→≼, Le-finite}
use Rattle.geometry.proofs.Rounding.{Le-round, Le-zero}

-- to the nearest whole number: by half of the unit u at most
near : (n u : ℕ) → 2 * (closest n u * u) ≤ 2 * n + u
near n u = go (compare (n % u * 2) u) (eqb→eq (n % u * 2) u) (nleb→lt (n % u * 2) u) (div-add-mod' n u)
  where
    go : (o : Ordering) → (T (compare_is_eq o) → n % u * 2 ≡ u) → (T (not (is_le o)) → u < n % u * 2) → n / u * u + n % u ≡ n
        → 2 * (nearest (n / u) o * u) ≤ 2 * n + u
    go Ordering.lt e g d = omega arith
    go Ordering.eq e g d =
        let h = e tt in
        let q = n / u in
        let k : q % 2 * u ≤ 1 * u = mul-le-mul_right u (bit q) in
        omega arith
      where
        bit : (q : ℕ) → q % 2 ≤ 1
        bit q = omega arith
    go Ordering.gt e g d = let h = g tt in omega arith

-- g units of 1 / (A * B), at most half of 2 * B units above k / c: so at most k / c + 1 / A
unit-near : (z : Float) (g k c A B : ℕ) → 0 < B → HasValue z false g (A * B) → g * c ≤ k * (A * B) + c * B
    → val z ≼ record { plus = k * A + c; minus = 0; den = c * A }
unit-near nan g k c A B P v h = absurd v
unit-near (inf s) g k c A B P v h = absurd v
unit-near (fin true m e) g k c A B P v h = omega arith
unit-near (fin false m e) g k c A B P v h = le_of_mul-le-mul_right (go v.1 (mul-le-mul_right (down e) h)) P
  where
    go : m * up e * (A * B) ≡ g * down e → g * c * down e ≤ (k * (A * B) + c * B) * down e
        → (m * up e * (c * A) + 0 * down e) * B ≤ ((k * A + c) * down e + 0 * (c * A)) * B
    go p q = let r = ap (λ (x : ℕ). x * c) p in omega arith

-- below 2 ^ 25 a unit is at most 2 ^ -28
half : (K c J n B : ℕ) → 2 * (K * (c * J)) ≤ 2 * n + c * J → c * J ≤ c * (2 * B) → K * J * c ≤ n + c * B
half K c J n B h k = omega arith

few : (z : ℕ) → z ≤ 1099 → z - 53 ≤ 1046
few z g = omega arith

below : (k c : ℕ) → 0 < c → k < 2 ^ 25 * c → grid binary64 k c * c ≤ k * 2 ^ 1074 + c * 2 ^ 1045
below k c C h =
    let n = k * 2 ^ 1074 in
    let j = drop 53 n c in
    let l : n < 2 ^ 1099 * c =
    lt_of_lt_of_le (mul-lt-mul_of_pos_right h (pow_pos 1074)) (le_of_eq (mul_right_comm (2 ^ 25) c (2 ^ 1074))) in
    half (kept 53 n c) c (2 ^ j) n (2 ^ 1045) (near n (c * 2 ^ j))
    (mul-le-mul_left c (pow_mono {j = 1046} (few (size (n / c)) (size-le (n / c) 1099 ((div-lt_iff_lt-mul C).1 l)))))

-- k / c and 2 ^ -29 more
abbrev pub risen : ℕ → ℕ → Frac
risen k c = record { plus = k * 2 ^ 29 + c; minus = 0; den = c * 2 ^ 29 }

-- up to 2 ^ 25 the result is finite, and it is 2 ^ -29 above the number at most
most : round binary64 false (2 ^ 25) 1 ≡ fin false 1 (pos 25)
unfolding round
most = refl

stays : (k c : ℕ) → 0 < c → k ≤ 2 ^ 25 * c → T (finite (round binary64 false k c))
stays k c C h =
    let z = round binary64 false k c in
    let l : k * 1 ≤ 2 ^ 25 * c = omega arith in
    Le-finite (fin false 0 (pos 0)) z (fin false 1 (pos 25)) tt tt (Le-zero binary64 k c C)
    (subst (λ (y : Float). Le z y) most (Le-round binary64 k c (2 ^ 25) 1 C (lit< tt) l))

rise : (k c : ℕ) → 0 < c → k ≤ 2 ^ 25 * c → val (round binary64 false k c) ≼ risen k c
rise k c C h =
    elim (eq-or-lt_of_le h) [
      | inl e ↦
          let g : k * 1 ≡ 2 ^ 25 * c = omega arith in
          rw (round_same binary64 false k c (2 ^ 25) 1 C (lit< tt) g ∙ most) (omega arith)
      | inr l ↦
          unit-near (round binary64 false k c) (grid binary64 k c) k c (2 ^ 29) (2 ^ 1045) (pow_pos 1045)
          (round_val binary64 k c (round_under binary64 k c (stays k c C h))) (below k c C l)
    ]

pub record Risen (z : Float) (k c : ℕ) : Type 0 where
  pub is_finite : T (finite z)
  pub from : whole 0 ≼ val z
  pub to : val z ≼ risen k c

pub rises : (k c : ℕ) → 0 < c → k ≤ 2 ^ 25 * c → Risen (round binary64 false k c) k c
rises k c C h =
    let z = round binary64 false k c in
    let e = stays k c C h in
    record { is_finite = e; from = Le→≼ (fin false 0 (pos 0)) z tt e (Le-zero binary64 k c C); to = rise k c C h }
