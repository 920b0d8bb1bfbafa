-- Which doubles the tests of `sqrt` tell apart: those above zero, the zeros, and the rest. Assumes nothing.
use Rattle.std.proofs.Common.{◌≡◌, ℕ, zero, suc, ◌+◌, ◌-◌, ◌*◌, ◌^◌, ◌<◌, ◌≤◌, Bool, true, false, ◌||◌, T, eqb, ltb, ◌⊎◌, ℤ, pos, sym, refl, ap, ◌∙◌, subst, inl, inr, ⊎_elim, true≢false, zero-le, le_trans, le_of_eq, le_of_suc-le-suc, lt_of_le_of_lt, mul-le-mul_right, zero-lt-suc, mul-le-mul, mul-pos, zero-mul, mul-one, arith, pow_pos, pow_mono, ltb-false, ltb-true, le-ltb, lt-ltb, eq-eqb, ne_eqb}
use mathlib.Core.Bool.{beq}
use lib.Ieee.{Float, nan, inf, fin, binary64, up, down, fits, lt, le, eq, div, of_bits, below, level}
use lib.Ieee.Fits.{up_pos, down_pos}
use lib.Ieee.Order.{le_of_values}
use lib.Ieee.Scale.{finite}
use lib.Ieee.Positive.{positive, first_pos}
use Rattle.root.specs.Root.{root}
use Rattle.root.specs.Nearest.{units_of, RootZero}
use Rattle.root.proofs.Units.{positive_elim, grid, bounded, tail, lead, lead_is, lead-short, tail-small, units-value-of}

size-pos : (m : ℕ) (e : ℤ) → 0 < suc m * up e * 1
size-pos m e = mul-pos (mul-pos (zero-lt-suc m) (up_pos e)) (zero-lt-suc 0)

no_zero : (a b : ℕ) → 0 < a → a ≤ 0 * b → ⊥
no_zero a b h k =
    let z : 0 * b ≡ 0 = zero-mul b in
    omega arith

-- what is above zero is infinity, or finite
pub above_zero : (x : Float) → lt (of_bits binary64 0) x ≡ true → (positive x ≡ true) ⊎ (x ≡ inf false)
unfolding lt of_bits
above_zero nan h = absurd (true≢false (sym h))
above_zero (inf true) h = absurd (true≢false (sym h))
above_zero (inf false) h = inr refl
above_zero (fin true m e) h = absurd (true≢false (sym h))
above_zero (fin false m e) h = inl (lt-ltb 0 m (first_pos m (up e) (first_pos (m * up e) 1 (lt_of_le_of_lt zero-le (ltb-true (0 * down e) (m * up e * 1) h)))))

-- no finite double is above the largest
pub up-to-largest : (x : Float) → T (fits binary64 x) → positive x ≡ true → T (le x (of_bits binary64 0x7FEF_FFFF_FFFF_FFFF))
unfolding of_bits
up-to-largest x f h =
    let n = units_of x in
    let t : 2 ^ tail n ≤ 2 ^ 2045 = pow_mono (tail-small n (bounded x f)) in
    let l : lead n ≤ 2 ^ 53 - 1 = le_of_suc-le-suc (lead-short n) in
    let u : n ≤ (2 ^ 53 - 1) * 2 ^ 2045 = le_trans (le_of_eq (sym (lead_is n (grid x f)))) (mul-le-mul l t) in
    le_of_values x (fin false (2 ^ 53 - 1) (pos 971)) n (2 ^ 1074) ((2 ^ 53 - 1) * 2 ^ 2045) (2 ^ 1074) (pow_pos 1074) (pow_pos 1074) (units-value-of x f h) (refl, refl) (mul-le-mul_right (2 ^ 1074) u)

-- infinity is
pub not-up-to : le (inf false) (of_bits binary64 0x7FEF_FFFF_FFFF_FFFF) ≡ false
unfolding le of_bits
not-up-to = refl

pub positive-between : (x : Float) → lt (of_bits binary64 0) x ≡ true → le x (of_bits binary64 0x7FEF_FFFF_FFFF_FFFF) ≡ true → positive x ≡ true
positive-between x h k = ⊎_elim (λ p. p) (λ (e : x ≡ inf false). absurd (true≢false (sym k ∙ ap (λ (y : Float). le y (of_bits binary64 0x7FEF_FFFF_FFFF_FFFF)) e ∙ not-up-to))) (above_zero x h)

-- what is above zero and not up to the largest is infinity, which is its own root
pub root_infinity : (x : Float) → T (fits binary64 x) → lt (of_bits binary64 0) x ≡ true → le x (of_bits binary64 0x7FEF_FFFF_FFFF_FFFF) ≡ false → x ≡ root x
unfolding root
root_infinity x f h k = ⊎_elim (λ (p : positive x ≡ true). absurd (subst T k (up-to-largest x f p))) (λ (e : x ≡ inf false). rw e) (above_zero x h)

-- ---- the zeros

pub nonzero-eq : (s : Bool) (m : ℕ) (e : ℤ) → eq (fin s (suc m) e) (of_bits binary64 0) ≡ false
unfolding eq of_bits
nonzero-eq s m e = rw (ne_eqb (suc m * up e * 1) (0 * down e) (λ (k : suc m * up e * 1 ≡ 0 * down e). no_zero (suc m * up e * 1) (down e) (size-pos m e) (le_of_eq k)))

pub root-zero : RootZero
unfolding root
root-zero nan h = refl
root-zero (inf s) h = absurd (true≢false (sym h ∙ unfold eq of_bits in refl))
root-zero (fin s zero e) h = refl
root-zero (fin s (suc m) e) h = absurd (true≢false (sym h ∙ nonzero-eq s m e))

pub zero-eq : (s : Bool) (e : ℤ) → eq (fin s zero e) (of_bits binary64 0) ≡ true
unfolding eq of_bits
zero-eq s e =
    let a : 0 * up e * 1 ≡ 0 = mul-one (0 * up e) ∙ zero-mul (up e) in
    let b : 0 * down e ≡ 0 = zero-mul (down e) in
    rw (eq-eqb (0 * up e * 1) (0 * down e) (a ∙ sym b), eq-eqb (0 * up e * 1) 0 a) (or-true (beq s false))
  where
    or-true : (t : Bool) → (t || true) ≡ true
    or-true true = refl
    or-true false = refl

-- ---- what is neither above zero nor zero has no root

pub no-root : (x : Float) → lt (of_bits binary64 0) x ≡ false → eq x (of_bits binary64 0) ≡ false → div binary64 (of_bits binary64 0) (of_bits binary64 0) ≡ root x
unfolding lt div of_bits root
no-root nan h k = refl
no-root (inf true) h k = refl
no-root (inf false) h k = absurd (true≢false h)
no-root (fin s zero e) h k = absurd (true≢false (sym (zero-eq s e) ∙ k))
no-root (fin true (suc m) e) h k = refl
no-root (fin false (suc m) e) h k = absurd (no_zero (suc m * up e * 1) (down e) (size-pos m e) (ltb-false (0 * down e) (suc m * up e * 1) h))

-- ---- the order about the zeros

none : (e : ℤ) (d : ℕ) → 0 * up e * d ≡ 0
none e d = ap (λ (x : ℕ). x * d) (zero-mul (up e)) ∙ zero-mul d

some : (n : ℕ) (d e : ℤ) → 0 < suc n * up d * down e
some n d e = mul-pos (mul-pos (zero-lt-suc n) (up_pos d)) (down_pos e)

-- a zero is below what is above zero
pub zero-below : (s : Bool) (e : ℤ) (y : Float) → positive y ≡ true → le (fin s zero e) y ≡ true
unfolding le
zero-below s e = positive_elim (λ y. le (fin s zero e) y ≡ true) (go s)
  where
    go : (s : Bool) (n : ℕ) (d : ℤ) → le (fin s zero e) (fin false (suc n) d) ≡ true
    go true n d =
        let p = some n d e in
        rw (lt-ltb 0 (0 * up e * down d + suc n * up d * down e) (omega arith))
    go false n d = rw (lt-ltb (0 * up e * down d) (suc n * up d * down e) (rw (none e (down d)) (some n d e)))

-- and not below a double under zero
negative : (s : Bool) (e : ℤ) (n : ℕ) (d : ℤ) → le (fin s zero e) (fin true (suc n) d) ≡ false
unfolding le
negative s e n d =
    let z = none e (down d) in
    let p = some n d e in
    let a = 0 * up e * down d in
    let b = suc n * up d * down e in
    go s (le-ltb b a (omega arith)) (ne_eqb a b (omega arith))
  where
    go : (s : Bool) → ltb (suc n * up d * down e) (0 * up e * down d) ≡ false → eqb (0 * up e * down d) (suc n * up d * down e) ≡ false
        → (below s (0 * up e * down d) true (suc n * up d * down e) || level s (0 * up e * down d) true (suc n * up d * down e)) ≡ false
    go true h k = rw (h, k)
    go false h k = rw k

-- a finite double from zero on is above zero, or zero
pub sorted : (s : Bool) (e : ℤ) (y : Float) → le (fin s zero e) y ≡ true → finite y ≡ true → (positive y ≡ true) ⊎ (eq y (of_bits binary64 0) ≡ true)
sorted s e nan h f = absurd (true≢false (sym f))
sorted s e (inf t) h f = absurd (true≢false (sym f))
sorted s e (fin t zero d) h f = inr (zero-eq t d)
sorted s e (fin false (suc n) d) h f = inl (lt-ltb 0 (suc n) (zero-lt-suc n))
sorted s e (fin true (suc n) d) h f = absurd (true≢false (sym h ∙ negative s e n d))

pub zero_is : of_bits binary64 0 ≡ fin false zero (pos 0)
unfolding of_bits
zero_is = refl

pub from_zero : (y : Float) → le (of_bits binary64 0) y ≡ true → finite y ≡ true → (positive y ≡ true) ⊎ (eq y (of_bits binary64 0) ≡ true)
from_zero y h f = sorted false (pos 0) y (rw zero_is at h) f
