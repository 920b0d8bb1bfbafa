-- The whole number nearest a root, `Rounded` of specs/: there is one, it has 53 digits, and `settle` finds it. Assumes nothing.
use Rattle.std.proofs.Common.{◌≡◌, ℕ, suc, ◌+◌, ◌-◌, ◌*◌, ◌^◌, ◌<◌, ◌≤◌, Bool, true, false, cond, not, T, ltb, ap, le_of_suc-le-suc, mul-le-mul, le_antisymm, lt_of_not-le, arith, ltb→lt, nltb→le}
use Rattle.root.specs.Steps.{Rounded}
use Rattle.root.proofs.Numbers.{square_le}

-- q, or a neighbour, by the rest n - q * q, to which m is added
pub mended : (a q rest m : ℕ) → rest + q * q ≡ a * 2 ^ 52 + m → 2 ^ 52 ≤ q → rest ≤ m + 3 * q → m + 2 < rest + 3 * q
    → Rounded a (q + cond (ltb (m + q) rest) 1 0 - cond (ltb (rest + q) (m + 1)) 1 0)
mended a q rest m e p u v = go (ltb (m + q) rest) (ltb→lt (m + q) rest) (nltb→le (m + q) rest) (ltb (rest + q) (m + 1)) (ltb→lt (rest + q) (m + 1)) (nltb→le (rest + q) (m + 1))
  where
    go : (s : Bool) → (T s → m + q < rest) → (T (not s) → rest ≤ m + q) → (t : Bool) → (T t → rest + q < m + 1) → (T (not t) → m + 1 ≤ rest + q)
        → Rounded a (q + cond s 1 0 - cond t 1 0)
    go true f g true h k = absurd (no (f tt) (h tt))
      where
        no : m + q < rest → rest + q < m + 1 → ⊥
        no x y = omega arith
    go true f g false h k =
        let x = f tt in
        let r : q + 1 - 0 ≡ suc q = omega arith in
        rw r (omega arith)
    go false f g true h k =
        let x = h tt in
        let r : suc (q + 0 - 1) ≡ q = omega arith in
        omega (arith, ap (λ (y : ℕ). y * y) r)
    go false f g false h k =
        let x = g tt in
        let y = k tt in
        let r : q + 0 - 0 ≡ q = omega arith in
        rw r (omega arith)

-- from s up to a larger r the number r * r - r grows to more than s * s + s
gap : (s r : ℕ) → s < r → s * s + s + r ≤ r * r
gap s r h =
    let t = r - 1 in
    let e : suc t ≡ r = omega arith in
    let l : s ≤ t = omega arith in
    omega (arith, mul-le-mul h l, ap (λ (x : ℕ). r * x) e)

-- of two numbers that are nearest neither is the larger
not-above : (a r s : ℕ) → Rounded a r → Rounded a s → r ≤ s
not-above a r s p q = le_of_suc-le-suc (lt_of_not-le (λ (g : s < r). no (gap s r g)))
  where
    no : s * s + s + r ≤ r * r → ⊥
    no g = omega arith

pub rounded-unique : (a r s : ℕ) → Rounded a r → Rounded a s → r ≡ s
rounded-unique a r s p q = le_antisymm (not-above a r s p q) (not-above a s r q p)

module _ (a r : ℕ) (lo : 2 ^ 52 ≤ a) (hi : a ≤ 2 ^ 54 - 2) (h : Rounded a r) where
  pub rounded-least : 2 ^ 52 ≤ r
  rounded-least = le_of_suc-le-suc (lt_of_not-le (λ (g : suc r ≤ 2 ^ 52). no g (square_le (suc r) (2 ^ 52) g)))
    where
      no : suc r ≤ 2 ^ 52 → suc r * suc r ≤ 2 ^ 52 * 2 ^ 52 → ⊥
      no g k = omega arith

  pub rounded-most : r < 2 ^ 53
  rounded-most = lt_of_not-le (λ (g : 2 ^ 53 ≤ r). no (gap (2 ^ 53 - 1) r g))
    where
      no : (2 ^ 53 - 1) * (2 ^ 53 - 1) + (2 ^ 53 - 1) + r ≤ r * r → ⊥
      no g = omega arith
