-- Signed fractions (plus - minus) / den: their order, and how it goes through sums and products. Nothing here is about floats.
-- Assumes nothing.
use Prim.Native.Nat.{ℕ, ◌+◌, ◌*◌, ◌≤◌, ◌<◌}
use mathlib.Core.Path.{◌≡◌}
use mathlib.Core.Logic.{◌⊎◌, inl, inr}
use native.Mathlib.Nat.{le_dest, le_of_lt, add-mul, mul_comm, mul-le-mul_right, le_of_mul-le-mul_right}
use native.Mathlib.Omega.{arith}
use mathlib.Core.Bool.{Bool, true, false, not}
use lib.Dec.{T, leb, leb→le, nleb→lt}

infix 40 ◌≼◌
infixl 50 ◌⊕◌
infixl 60 ◌⊗◌
-- the number (plus - minus) / den
pub record Frac : Type 0 where
  pub plus : ℕ
  pub minus : ℕ
  pub den : ℕ

-- a whole number
abbrev pub whole : ℕ → Frac
whole n = record { plus = n; minus = 0; den = 1 }

abbrev pub opp : Frac → Frac
opp x = record { plus = x.minus; minus = x.plus; den = x.den }

abbrev pub ◌⊕◌ : Frac → Frac → Frac
◌⊕◌ x y = record { plus = x.plus * y.den + y.plus * x.den; minus = x.minus * y.den + y.minus * x.den; den = x.den * y.den }

abbrev pub ◌⊗◌ : Frac → Frac → Frac
◌⊗◌ x y = record { plus = x.plus * y.plus + x.minus * y.minus; minus = x.plus * y.minus + x.minus * y.plus; den = x.den * y.den }

abbrev pub ◌≼◌ : Frac → Frac → Type 0
◌≼◌ x y = x.plus * y.den + y.minus * x.den ≤ y.plus * x.den + x.minus * y.den

pub ≼_refl : (x : Frac) → x ≼ x
≼_refl x = omega arith

pub ≼_trans : (x y z : Frac) → 0 < y.den → x ≼ y → y ≼ z → x ≼ z
≼_trans x y z d h k =
    let g : (x.plus * z.den + z.minus * x.den) * y.den ≤ (z.plus * x.den + x.minus * z.den) * y.den =
    omega (arith, mul-le-mul_right z.den h, mul-le-mul_right x.den k) in
    le_of_mul-le-mul_right g d

pub either : (x y : Frac) → (x ≼ y) ⊎ (y ≼ x)
either x y = go (leb a b) (leb→le a b) (nleb→lt a b)
  where
    a : ℕ
    a = x.plus * y.den + y.minus * x.den

    b : ℕ
    b = y.plus * x.den + x.minus * y.den

    go : (t : Bool) → (T t → a ≤ b) → (T (not t) → b < a) → (a ≤ b) ⊎ (b ≤ a)
    go true h k = inl (h tt)
    go false h k = inr (le_of_lt (k tt))

pub opp_anti : (x y : Frac) → x ≼ y → opp y ≼ opp x
opp_anti x y h = omega arith

-- h times e and e'
scaled : (p n d p' n' d' e e' : ℕ) → p * d' + n' * d ≤ p' * d + n * d'
    → p * e * (d' * e') + n' * e' * (d * e) ≤ p' * e' * (d * e) + n * e * (d' * e')
scaled p n d p' n' d' e e' h = omega (arith, mul-le-mul_right (e * e') h)

pub ⊕-mono : (x x' y y' : Frac) → x ≼ x' → y ≼ y' → x ⊕ y ≼ x' ⊕ y'
⊕-mono x x' y y' h k =
    let a = scaled x.plus x.minus x.den x'.plus x'.minus x'.den y.den y'.den h in
    let b = scaled y.plus y.minus y.den y'.plus y'.minus y'.den x.den x'.den k in
    let c = rw (mul_comm y.den x.den, mul_comm y'.den x'.den) at b in
    simp add-mul (omega arith)

-- a sum with what is not negative is no smaller
pub ⊕-up : (x y : Frac) → whole 0 ≼ y → x ≼ x ⊕ y
⊕-up x y h = omega (arith, mul-le-mul_right (x.den * x.den) h)

-- ---- products: (b - a) * (d - c) is not negative for a ≤ b and c ≤ d
exchange : {a b c d : ℕ} → a ≤ b → c ≤ d → a * d + b * c ≤ a * c + b * d
exchange {a} {b} {c} {d} h k =
    let (i, p) = le_dest h in
    let (j, q) = le_dest k in
    go i p j q
  where
    go : (i : ℕ) → a + i ≡ b → (j : ℕ) → c + j ≡ d → a * d + b * c ≤ a * c + b * d
    go i p j q = rw (← p, ← q) (omega arith)

-- a factor that is not negative keeps the order, on either side, and one that is not positive turns it
pub ⊗-mono-l : (x x' y : Frac) → x ≼ x' → whole 0 ≼ y → x ⊗ y ≼ x' ⊗ y
⊗-mono-l x x' y h k =
    let n : y.minus ≤ y.plus = omega arith in
    omega (arith, mul-le-mul_right y.den (exchange h n))

pub ⊗-mono-r : (x y y' : Frac) → whole 0 ≼ x → y ≼ y' → x ⊗ y ≼ x ⊗ y'
⊗-mono-r x y y' k h =
    let n : x.minus ≤ x.plus = omega arith in
    omega (arith, mul-le-mul_right x.den (exchange h n))

pub ⊗-anti-r : (x y y' : Frac) → x ≼ whole 0 → y ≼ y' → x ⊗ y' ≼ x ⊗ y
⊗-anti-r x y y' k h =
    let n : x.plus ≤ x.minus = omega arith in
    omega (arith, mul-le-mul_right x.den (exchange h n))

pub ⊗-pos : (x y : Frac) → whole 0 ≼ x → whole 0 ≼ y → whole 0 ≼ x ⊗ y
⊗-pos x y h k =
    let m : x.minus ≤ x.plus = omega arith in
    let n : y.minus ≤ y.plus = omega arith in
    omega (arith, exchange m n)

-- a square is not negative, and of -y ≤ x ≤ y the square is at most that of y
pub square-pos : (x : Frac) → whole 0 ≼ x ⊗ x
square-pos x = elim (either (whole 0) x) [ inl h ↦ ⊗-pos x x h h | inr h ↦ below h ]
  where
    below : x ≼ whole 0 → whole 0 ≼ x ⊗ x
    below h =
        let n : x.plus ≤ x.minus = omega arith in
        omega (arith, exchange n n)

pub square_le : (x y : Frac) → opp y ≼ x → x ≼ y → x ⊗ x ≼ y ⊗ y
square_le x y h k = omega (arith, exchange k h)
