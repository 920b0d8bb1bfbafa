-- Facts about plain numbers: squares, powers of two and four, and the tests that compute. Assumes nothing.
use Rattle.std.proofs.Common.{◌≡◌, ℕ, zero, suc, ◌+◌, ◌-◌, ◌*◌, ◌/◌, ◌%◌, ◌^◌, ◌<◌, ◌≤◌, Bool, true, false, not, T, ltb, leb, ◌⊎◌, sym, refl, ap, ◌∙◌, subst, inl, inr, true≢false, lt_of_lt_of_le, le_of_suc-le-suc, le_of_lt, lt_irrefl, mul_assoc, mul-le-mul, pow-suc, lt_of_not-le, div-add-mod', not-le_of_lt, arith, ltb→lt, leb→le, nltb→le, pow_mono, pow-add, le-ltb, lt-ltb, ne_eqb, le-leb}
use Prim.Native.Nat.{compare, Ordering}
use native.Mathlib.Nat.{pow-succ'}
use borrow.Author.Tests.{lt-leb}
use lib.Dec.{is_le, compare_is_eq, nleb→lt}
use lib.Pow.{pow-lt}

-- ---- tests

pub le-or-lt : (a b : ℕ) → (a ≤ b) ⊎ (b < a)
le-or-lt a b = go (leb a b) (leb→le a b) (nleb→lt a b)
  where
    go : (t : Bool) → (T t → a ≤ b) → (T (not t) → b < a) → (a ≤ b) ⊎ (b < a)
    go true h k = inl (h tt)
    go false h k = inr (k tt)

-- two comparisons that decide the same
pub same-ltb : (a b c d : ℕ) → (a < b → c < d) → (b ≤ a → d ≤ c) → ltb a b ≡ ltb c d
same-ltb a b c d f g = go (ltb a b) (ltb→lt a b) (nltb→le a b)
  where
    go : (t : Bool) → (T t → a < b) → (T (not t) → b ≤ a) → t ≡ ltb c d
    go true h k = sym (lt-ltb c d (f (h tt)))
    go false h k = sym (le-ltb c d (g (k tt)))

pub compare-lt : (a b : ℕ) → a < b → compare a b ≡ Ordering.lt
compare-lt a b h = go (compare a b) (le-leb a b (le_of_lt h)) (ne_eqb a b (λ (e : a ≡ b). lt_irrefl b (subst (λ (x : ℕ). x < b) e h)))
  where
    go : (o : Ordering) → is_le o ≡ true → compare_is_eq o ≡ false → o ≡ Ordering.lt
    go Ordering.lt p q = refl
    go Ordering.eq p q = absurd (true≢false q)
    go Ordering.gt p q = absurd (true≢false (sym p))

pub compare-gt : (a b : ℕ) → b < a → compare a b ≡ Ordering.gt
compare-gt a b h = go (compare a b) (lt-leb a b h)
  where
    go : (o : Ordering) → is_le o ≡ false → o ≡ Ordering.gt
    go Ordering.lt p = absurd (true≢false p)
    go Ordering.eq p = absurd (true≢false p)
    go Ordering.gt p = refl

-- ---- squares

-- the smaller square is of the smaller number
pub root-lt : (a b : ℕ) → a * a < b * b → a < b
root-lt a b h = lt_of_not-le (λ (g : b ≤ a). not-le_of_lt h (mul-le-mul g g))

pub square_le : (a b : ℕ) → a ≤ b → a * a ≤ b * b
square_le a b h = mul-le-mul h h

pub square-lt : (a b : ℕ) → a < b → a * a < b * b
square-lt a b h = omega (arith, mul-le-mul h h)

-- a number below 2 ^ 54 in two halves: the products of the halves
pub halves-square : (q : ℕ) → (q / 0x400_0000 * 0x400_0000 + q % 0x400_0000) * (q / 0x400_0000 * 0x400_0000 + q % 0x400_0000) ≡ q * q
halves-square q = ap (λ (x : ℕ). x * x) (div-add-mod' q 0x400_0000)

module _ (q : ℕ) (h : q < 2 ^ 54) where
  high_le : q / 0x400_0000 ≤ 2 ^ 28 - 1
  high_le = omega arith

  low-le : q % 0x400_0000 ≤ 2 ^ 26 - 1
  low-le = omega arith

  pub high-square : q / 0x400_0000 * (q / 0x400_0000) ≤ (2 ^ 28 - 1) * (2 ^ 28 - 1)
  high-square = mul-le-mul high_le high_le

  pub low-square : q % 0x400_0000 * (q % 0x400_0000) ≤ (2 ^ 26 - 1) * (2 ^ 26 - 1)
  low-square = mul-le-mul low-le low-le

  pub cross-le : q / 0x400_0000 * (q % 0x400_0000) ≤ (2 ^ 28 - 1) * (2 ^ 26 - 1)
  cross-le = mul-le-mul high_le low-le

-- ---- powers

pub four-pow : (k : ℕ) → 4 ^ k ≡ 2 ^ k * 2 ^ k
four-pow zero = refl
four-pow (suc k) = rw (pow-suc 4 k, pow-suc 2 k) (omega (arith, four-pow k))

-- 2 ^ p with the odd place kept apart
pub halves : (k r : ℕ) → r < 2 → (1 + r) * 4 ^ k ≡ 2 ^ (k + k + r)
halves k zero h = rw (four-pow, pow-add 2 (k + k) 0, pow-add 2 k k) (omega arith)
halves k (suc zero) h = rw (four-pow, pow-add 2 (k + k) 1, pow-add 2 k k) (omega arith)
halves k (suc (suc r)) h = absurd (no r h)
  where
    no : (r : ℕ) → suc (suc r) < 2 → ⊥
    no r h = omega arith

-- a doubled number has one place less
pub doubled : (m p n : ℕ) → 1 ≤ p → m * 2 ^ p ≡ n → m * 2 * 2 ^ (p - 1) ≡ n
doubled m p n h e = mul_assoc m 2 (2 ^ (p - 1)) ∙ ap (λ (x : ℕ). m * x) (sym (pow-succ' 2 (p - 1)) ∙ ap (λ (x : ℕ). 2 ^ x) back) ∙ e
  where
    back : suc (p - 1) ≡ p
    back = omega arith

pub pow_lt_back : (i j : ℕ) → 2 ^ i < 2 ^ j → i < j
pow_lt_back i j h = lt_of_not-le (λ (g : j ≤ i). not-le_of_lt h (pow_mono g))

pub pow_le_back : (i j : ℕ) → 2 ^ i ≤ 2 ^ j → i ≤ j
pow_le_back i j h = le_of_suc-le-suc (lt_of_not-le (λ (g : suc j ≤ i). lt_irrefl (2 ^ j) (lt_of_lt_of_le (pow-lt g) h)))
