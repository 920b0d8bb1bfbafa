-- `nearest_root` of specs/: the root's whole part, the 53 digits that are kept of it, and the number nearest the root. Assumes nothing.
use Rattle.std.proofs.Common.{◌≡◌, ℕ, zero, suc, ◌+◌, ◌-◌, ◌*◌, ◌/◌, ◌^◌, ◌<◌, ◌≤◌, Bool, true, false, cond, not, T, leb, ◌⊎◌, sym, refl, ap, ◌∙◌, inl, inr, lt_of_lt_of_le, mul-le-mul_right, lt_of_mul-lt-mul_right, mul-lt-mul_of_pos_right, mul-pos, pow-suc, lt_of_not-le, le-div_iff_mul-le, not-le_of_lt, div-mul-le_self, le_of_mul-le-mul_right, arith, leb→le, pow_pos, pow_mono, pow-add}
use Prim.Native.Nat.{compare}
use native.Mathlib.Nat.{lt-div-mul-add}
use lib.Dec.{nleb→lt}
use lib.Ieee.{Float, binary64, size, nearest, units}
use lib.Ieee.Digits.{size-lt, size-le}
use Rattle.root.specs.Root.{whole_root, nearest_root}
use Rattle.root.specs.Steps.{Rounded}
use Rattle.root.proofs.Numbers.{le-or-lt, compare-lt, compare-gt, root-lt, square_le, four-pow}

-- ---- the whole part of a root

abbrev pub IsRoot : ℕ → ℕ → Type 0
IsRoot w n = (w * w ≤ n) × (n < (w + 1) * (w + 1))

-- one more digit
digit : (b : Bool) (r n : ℕ) → (T b → (r + 1) * (r + 1) ≤ n) → (T (not b) → n < (r + 1) * (r + 1)) → r * r ≤ n → n < (r + 2) * (r + 2) → IsRoot (cond b (r + 1) r) n
digit true r n f g lo hi = (f tt, omega arith)
digit false r n f g lo hi = (lo, g tt)

quarter : (d n : ℕ) → n < 4 ^ suc d → n / 4 < 4 ^ d
quarter d n h =
    let l : n < 4 ^ d * 4 = rw (pow-suc 4 d) at h in
    omega arith

pub whole-root : (d n : ℕ) → n < 4 ^ d → IsRoot (whole_root d n) n
unfolding whole_root
whole-root zero n h = (omega arith, h)
whole-root (suc d) n h =
    let s = whole_root d (n / 4) in
    let r = 2 * s in
    let ih : IsRoot s (n / 4) = whole-root d (n / 4) (quarter d n h) in
    digit (leb ((r + 1) * (r + 1)) n) r n (leb→le ((r + 1) * (r + 1)) n) (nleb→lt ((r + 1) * (r + 1)) n) (omega arith) (omega arith)

-- the digits that `nearest_root` takes are enough
enough : (n : ℕ) → n < 4 ^ suc (size n / 2)
enough n =
    let k = suc (size n / 2) in
    let h : size n ≤ k + k = omega arith in
    rw (four-pow k, ← (pow-add 2 k k)) (lt_of_lt_of_le (size-lt n) (pow_mono h))

-- ---- a number's digits

pub size_is : (n k : ℕ) → 2 ^ 52 * 2 ^ k ≤ n → n < 2 ^ 53 * 2 ^ k → size n ≡ 53 + k
size_is n k lo hi =
    let few : size n ≤ 53 + k = size-le n (53 + k) (rw (pow-add 2 53 k) hi) in
    let many : 52 + k < size n = lt_of_not-le (λ (g : size n ≤ 52 + k). not-le_of_lt (lt_of_lt_of_le (size-lt n) (pow_mono g)) (rw (pow-add 2 52 k) lo)) in
    omega arith

-- ---- n is A * P * P, with a root from 2 ^ 52 to 2 ^ 53 times P: what is kept of it is the whole root of A

module _ (n A P w : ℕ) (e : n ≡ A * (P * P)) (lo : 2 ^ 52 * 2 ^ 52 ≤ A) (hi : A < 2 ^ 53 * 2 ^ 53) (pos : 0 < P) (is : IsRoot w n) where
  root-least : 2 ^ 52 * P ≤ w
  root-least =
      let h : 2 ^ 52 * P < w + 1 = root-lt (2 ^ 52 * P) (w + 1) (omega (arith, mul-le-mul_right (P * P) lo)) in
      omega arith

  root-most : w < 2 ^ 53 * P
  root-most = root-lt w (2 ^ 53 * P) (omega (arith, mul-lt-mul_of_pos_right hi (mul-pos pos pos)))

  kept-root : IsRoot (w / P) A
  kept-root =
      let q = w / P in
      let u : w + 1 ≤ (q + 1) * P = omega (arith, lt-div-mul-add {a = w} pos) in (
        le_of_mul-le-mul_right {k = P * P} (omega (arith, square_le (q * P) w (div-mul-le_self w P))) (mul-pos pos pos),
        lt_of_mul-lt-mul_right (P * P) (omega (arith, square_le (w + 1) ((q + 1) * P) u)),
      )

-- ---- rounding: no tie occurs, since 4 * A is even and (2 * q + 1) * (2 * q + 1) is odd

module _ (n a P q : ℕ) (e : n ≡ a * 2 ^ 52 * (P * P)) (pos : 0 < P) (large : 0 < q) (is : IsRoot q (a * 2 ^ 52)) where
  abbrev chosen : ℕ
  chosen = nearest q (compare (4 * n) ((2 * q + 1) * P * ((2 * q + 1) * P)))

  chosen-rounded : Rounded a chosen
  chosen-rounded = go (le-or-lt (a * 2 ^ 52) (q * q + q))
    where
      go : (a * 2 ^ 52 ≤ q * q + q) ⊎ (q * q + q < a * 2 ^ 52) → Rounded a chosen
      go (inl h) =
          let l : 4 * (a * 2 ^ 52) < (2 * q + 1) * (2 * q + 1) = omega arith in
          rw (compare-lt (4 * n) ((2 * q + 1) * P * ((2 * q + 1) * P)) (omega (arith, mul-lt-mul_of_pos_right l (mul-pos pos pos)))) (omega arith)
      go (inr h) =
          let l : (2 * q + 1) * (2 * q + 1) < 4 * (a * 2 ^ 52) = omega arith in
          rw (compare-gt (4 * n) ((2 * q + 1) * P * ((2 * q + 1) * P)) (omega (arith, mul-lt-mul_of_pos_right l (mul-pos pos pos)))) (omega arith)

-- ---- `nearest_root`

abbrev kept_at : ℕ → ℕ → ℕ → Float
kept_at n w k = units binary64 false (nearest (w / 2 ^ k) (compare (4 * n) ((2 * (w / 2 ^ k) + 1) * 2 ^ k * ((2 * (w / 2 ^ k) + 1) * 2 ^ k)))) k

opened : (n : ℕ) → nearest_root n ≡ kept_at n (whole_root (suc (size n / 2)) n) (size (whole_root (suc (size n / 2)) n) - 53)
unfolding nearest_root
opened n = refl

-- the double nearest the root of a * 2 ^ 52 * 4 ^ k: the number nearest the root of a * 2 ^ 52, times 2 ^ k
pub nearest-root : (n a k : ℕ) → a * 2 ^ 52 * 4 ^ k ≡ n → 2 ^ 52 ≤ a → a ≤ 2 ^ 54 - 2 → (r : ℕ) × Rounded a r × (nearest_root n ≡ units binary64 false r k)
nearest-root n a k v lo hi =
    let P = 2 ^ k in
    let A = a * 2 ^ 52 in
    let e : n ≡ A * (P * P) = sym v ∙ ap (λ (x : ℕ). A * x) (four-pow k) in
    let w = whole_root (suc (size n / 2)) n in
    let is : IsRoot w n = whole-root (suc (size n / 2)) n (enough n) in
    let l : 2 ^ 52 * 2 ^ 52 ≤ A = omega arith in
    let h : A < 2 ^ 53 * 2 ^ 53 = omega arith in
    let least : 2 ^ 52 * P ≤ w = root-least n A P w e l h (pow_pos k) is in
    let most : w < 2 ^ 53 * P = root-most n A P w e l h (pow_pos k) is in
    let z : size w ≡ 53 + k = size_is w k least most in
    let drop : size w - 53 ≡ k = omega arith in
    let q = w / P in
    let large : 2 ^ 52 ≤ q = (le-div_iff_mul-le (pow_pos k)).1 least in (
      chosen n a P q e (pow_pos k) (omega arith) (kept-root n A P w e l h (pow_pos k) is),
      chosen-rounded n a P q e (pow_pos k) (omega arith) (kept-root n A P w e l h (pow_pos k) is),
      opened n ∙ ap (λ (x : ℕ). kept_at n w x) drop,
    )
