-- A double's size counted in units of 2 ^ -1074, and its bit pattern. Assumes nothing.
use Rattle.std.proofs.Common.{◌≡◌, ℕ, zero, suc, ◌+◌, ◌-◌, ◌*◌, ◌/◌, ◌%◌, ◌^◌, ◌<◌, ◌≤◌, Bool, true, false, not, ◌&&◌, T, eqb, ltb, leb, ◌⊎◌, ℤ, pos, negsuc, sym, refl, ap, ◌∙◌, subst, inl, inr, true≢false, le_trans, mul_assoc, eq-zero-or-pos, lt_of_mul-lt-mul_right, mul-lt-mul_of_pos_right, mul-pos, one-mul, le-div_iff_mul-le, zero-add, zero-mul, mul-one, mul_right_comm, mul-div_cancel, arith, ltb→lt, leb→le, pow_pos, pow-add, shl_lt, le-ltb}
use native.Mathlib.Nat.{zero-div, mod-le}
use lib.Ieee.{Float, nan, inf, fin, binary64, up, down, size, lt, fits, is_nan, nan_bits, ones, hid, top, to_bits}
use lib.Ieee.Digits.{size-le, size_reaches}
use lib.Ieee.Fits.{and_l, and_r, down_pos, kept-lt}
use lib.Ieee.Exact.{HasValue}
use lib.Ieee.Bits.{nan_bits_above}
use lib.Ieee.Positive.{positive, num, den, first_pos, value_pos}
use Rattle.root.specs.Nearest.{units_of}
use Rattle.root.specs.Steps.{magnitude}
use Rattle.root.proofs.Numbers.{le-or-lt, pow_le_back}
use Rattle.root.proofs.Places.{magnitude-low, magnitude-high}

-- ---- what is no NaN

pub lt-no-nan : (x y : Float) → lt x y ≡ true → T (not (is_nan x))
unfolding lt is_nan
lt-no-nan nan y h = absurd (true≢false (sym h))
lt-no-nan (inf s) y h = tt
lt-no-nan (fin s m e) y h = tt

-- what holds of `fin false (suc m) e` holds of every double that is finite and above zero
pub positive_elim : (P : Float → Type 0) → ((m : ℕ) (e : ℤ) → P (fin false (suc m) e)) → (x : Float) → positive x ≡ true → P x
positive_elim P f nan h = absurd (true≢false (sym h))
positive_elim P f (inf s) h = absurd (true≢false (sym h))
positive_elim P f (fin true m e) h = absurd (true≢false (sym h))
positive_elim P f (fin false zero e) h = absurd (true≢false (sym h))
positive_elim P f (fin false (suc m) e) h = f m e

pub positive-no-nan : (x : Float) → positive x ≡ true → T (not (is_nan x))
unfolding is_nan
positive-no-nan = positive_elim (λ x. T (not (is_nan x))) (λ m e. tt)

-- a pattern up to infinity's
pub no-nan-bits : (b : ℕ) → b ≤ 2047 * 2 ^ 52 → T (not (nan_bits binary64 b))
no-nan-bits b h = subst (λ (t : Bool). T (not t)) (sym (nan_bits_above binary64 b ∙ le-ltb (ones binary64 * hid binary64) (b % top binary64) (le_trans (mod-le b (top binary64)) h))) tt

-- ---- a double's size is a whole number of units, of 53 digits at most and some zeros, and below 2 ^ 2098

pub record Grid (n : ℕ) : Type 0 where
  pub digits : ℕ
  pub places : ℕ
  pub short : digits < 2 ^ 53
  pub is : n ≡ digits * 2 ^ places

-- 2 ^ e is 2 ^ j times 2 ^ -l, for a j
shift : (l : ℕ) (e : ℤ) → down e ≤ 2 ^ l → (j : ℕ) × (up e * 2 ^ l ≡ 2 ^ j * down e)
shift l (pos a) h = (a + l, sym (pow-add 2 a l) ∙ sym (mul-one (2 ^ (a + l))))
shift l (negsuc a) h =
    let le : suc a ≤ l = pow_le_back (suc a) l h in
    let e : l ≡ l - suc a + suc a = omega arith in
    (l - suc a, one-mul (2 ^ l) ∙ ap (λ (x : ℕ). 2 ^ x) e ∙ pow-add 2 (l - suc a) (suc a))

-- what `fits` says of a value that is not zero
says : (s : Bool) (m : ℕ) (e : ℤ) → T (fits binary64 (fin s (suc m) e)) → (suc m < 2 ^ 53) × (down e ≤ 2 ^ 1074) × (suc m * up e < 2 ^ 1024 * down e)
unfolding fits
says s m e h =
    let A = eqb (suc m % 2) 1 in
    let B = ltb (suc m) (2 ^ 53) in
    let C = leb (down e) (2 ^ 1074) in
    let D = ltb (suc m * up e) (2 ^ 1024 * down e) in (
      ltb→lt (suc m) (2 ^ 53) (and_r A B (and_l (A && B) C (and_l (A && B && C) D h))),
      leb→le (down e) (2 ^ 1074) (and_r (A && B) C (and_l (A && B && C) D h)),
      ltb→lt (suc m * up e) (2 ^ 1024 * down e) (and_r (A && B && C) D h),
    )

-- m * 2 ^ e in units of 2 ^ -l
module _ (l m : ℕ) (e : ℤ) (h : down e ≤ 2 ^ l) where
  counted : m * up e * 2 ^ l ≡ m * 2 ^ (shift l e h).0 * down e
  counted = mul_assoc m (up e) (2 ^ l) ∙ ap (λ (x : ℕ). m * x) (shift l e h).1 ∙ sym (mul_assoc m (2 ^ (shift l e h).0) (down e))

  whole-units : m * up e * 2 ^ l / down e ≡ m * 2 ^ (shift l e h).0
  whole-units = ap (λ (x : ℕ). x / down e) counted ∙ mul-div_cancel (m * 2 ^ (shift l e h).0) (down_pos e)

nothing : (e : ℤ) (l : ℕ) → 0 * up e * l / down e ≡ 0
nothing e l = ap (λ (x : ℕ). x * l / down e) (zero-mul (up e)) ∙ ap (λ (x : ℕ). x / down e) (zero-mul l) ∙ zero-div (down e)

pub grid : (x : Float) → T (fits binary64 x) → Grid (units_of x)
unfolding units_of
grid nan h = record { digits = 0; places = 0; short = pow_pos 53; is = refl }
grid (inf s) h = record { digits = 0; places = 0; short = pow_pos 53; is = refl }
grid (fin s zero e) h = record { digits = 0; places = 0; short = pow_pos 53; is = nothing e (2 ^ 1074) }
grid (fin s (suc m) e) h =
    let f = says s m e h in
    record { digits = suc m; places = (shift 1074 e f.1).0; short = f.0; is = whole-units 1074 (suc m) e f.1 }

-- the division is exact
pub exact : (x : Float) → T (fits binary64 x) → num x * 2 ^ 1074 ≡ units_of x * den x
unfolding units_of
exact nan h = refl
exact (inf s) h = refl
exact (fin s zero e) h = ap (λ (x : ℕ). x * 2 ^ 1074) (zero-mul (up e)) ∙ zero-mul (2 ^ 1074) ∙ sym (zero-mul (down e)) ∙ ap (λ (x : ℕ). x * down e) (sym (nothing e (2 ^ 1074)))
exact (fin s (suc m) e) h =
    let f = says s m e h in
    counted 1074 (suc m) e f.1 ∙ ap (λ (x : ℕ). x * down e) (sym (whole-units 1074 (suc m) e f.1))

-- below a bound that is t / l, the size is below t units
under : (a l t d n : ℕ) → 0 < l → a * l ≡ n * d → a < t * d → n < t * l
under a l t d n p e h = lt_of_mul-lt-mul_right d (subst (λ (x : ℕ). x < t * l * d) e (subst (λ (x : ℕ). a * l < x) (mul_right_comm t d l) (mul-lt-mul_of_pos_right h p)))

pub bounded : (x : Float) → T (fits binary64 x) → units_of x < 2 ^ 1024 * 2 ^ 1074
bounded nan h = unfold units_of in pow_pos 2098
bounded (inf s) h = unfold units_of in pow_pos 2098
bounded (fin s zero e) h = under (0 * up e) (2 ^ 1074) (2 ^ 1024) (down e) (units_of (fin s zero e)) (pow_pos 1074) (exact (fin s zero e) h) (rw (zero-mul (up e)) (mul-pos (pow_pos 1024) (down_pos e)))
bounded (fin s (suc m) e) h = under (suc m * up e) (2 ^ 1074) (2 ^ 1024) (down e) (units_of (fin s (suc m) e)) (pow_pos 1074) (exact (fin s (suc m) e) h) (says s m e h).2

-- a value that is known as a fraction of 2 ^ 1074 has that many units
pub units-of-value : (x : Float) (s : Bool) (n : ℕ) → HasValue x s n (2 ^ 1074) → units_of x ≡ n
unfolding units_of
units-of-value nan s n h = absurd h
units-of-value (inf t) s n h = absurd h
units-of-value (fin t m e) s n h = ap (λ (x : ℕ). x / down e) h.1 ∙ mul-div_cancel n (down_pos e)

pub units-value-of : (x : Float) → T (fits binary64 x) → positive x ≡ true → HasValue x false (units_of x) (2 ^ 1074)
units-value-of x f h = positive_elim (λ x. T (fits binary64 x) → HasValue x false (units_of x) (2 ^ 1074)) (λ m e f. (refl, exact (fin false (suc m) e) f)) x h f

pub units-above : (x : Float) → T (fits binary64 x) → positive x ≡ true → 0 < units_of x
units-above x f h = value_pos x (units_of x) (2 ^ 1074) (subst T (sym h) tt) (pow_pos 1074) (units-value-of x f h)

-- ---- the leading digits of a number on the grid: c of them, and k zeros

abbrev pub tail : ℕ → ℕ
tail n = size n - 53

abbrev pub lead : ℕ → ℕ
lead n = n / 2 ^ tail n

pub lead-short : (n : ℕ) → lead n < 2 ^ 53
lead-short n = kept-lt 53 n

-- a grid number of as many places as are asked
pub cut : (n k : ℕ) → (g : Grid n) → k ≤ g.places → n ≡ g.digits * 2 ^ (g.places - k) * 2 ^ k
cut n k g h =
    let e : g.places ≡ g.places - k + k = omega arith in
    g.is ∙ ap (λ (x : ℕ). g.digits * x) (ap (λ (x : ℕ). 2 ^ x) e ∙ pow-add 2 (g.places - k) k) ∙ sym (mul_assoc g.digits (2 ^ (g.places - k)) (2 ^ k))

pub lead_is : (n : ℕ) → Grid n → lead n * 2 ^ tail n ≡ n
lead_is n g =
    let few : size n ≤ 53 + g.places = size-le n (53 + g.places) (subst (λ (x : ℕ). x < 2 ^ (53 + g.places)) (sym g.is) (shl_lt 53 g.places g.short)) in
    let e = cut n (tail n) g (omega arith) in
    ap (λ (x : ℕ). x * 2 ^ tail n) (ap (λ (x : ℕ). x / 2 ^ tail n) e ∙ mul-div_cancel (g.digits * 2 ^ (g.places - tail n)) (pow_pos (tail n))) ∙ sym e

pub lead-long : (n : ℕ) → (2 ^ 52 ≤ lead n) ⊎ (tail n ≡ 0)
lead-long n = go (eq-zero-or-pos (tail n))
  where
    go : (tail n ≡ 0) ⊎ (0 < tail n) → (2 ^ 52 ≤ lead n) ⊎ (tail n ≡ 0)
    go (inl z) = inr z
    go (inr p) =
        let h : 52 + tail n < size n = omega arith in
        inl ((le-div_iff_mul-le (pow_pos (tail n))).1 (rw (← (pow-add 2 52 (tail n))) (size_reaches n (52 + tail n) h)))

pub tail-small : (n : ℕ) → n < 2 ^ 1024 * 2 ^ 1074 → tail n ≤ 2045
tail-small n h =
    let z : size n ≤ 2098 = size-le n 2098 h in
    omega arith

-- ---- the bits of a double

magnitude-is : (c k : ℕ) → c < 2 ^ 53 → (2 ^ 52 ≤ c) ⊎ (k ≡ 0) → magnitude (k * 2 ^ 52 + c) ≡ c * 2 ^ k
magnitude-is c k h l = go (le-or-lt (2 ^ 52) c) l
  where
    go : (2 ^ 52 ≤ c) ⊎ (c < 2 ^ 52) → (2 ^ 52 ≤ c) ⊎ (k ≡ 0) → magnitude (k * 2 ^ 52 + c) ≡ c * 2 ^ k
    go (inl g) l =
        let b = k * 2 ^ 52 + c in
        let f : b / 2 ^ 52 - 1 ≡ k = omega arith in
        let d : b % 2 ^ 52 + 2 ^ 52 ≡ c = omega arith in
        magnitude-high b (omega arith) ∙ ap (λ (x : ℕ). (b % 2 ^ 52 + 2 ^ 52) * 2 ^ x) f ∙ ap (λ (x : ℕ). x * 2 ^ k) d
    go (inr g) (inl t) = absurd (no g t)
      where
        no : c < 2 ^ 52 → 2 ^ 52 ≤ c → ⊥
        no g t = omega arith
    go (inr g) (inr z) =
        let b = k * 2 ^ 52 + c in
        let d : b % 2 ^ 52 ≡ c = omega arith in
        magnitude-low b (omega arith) ∙ d ∙ sym (mul-one c) ∙ ap (λ (x : ℕ). c * 2 ^ x) (sym z)

pub bits_of : (x : Float) → positive x ≡ true → to_bits binary64 x ≡ tail (units_of x) * 2 ^ 52 + lead (units_of x)
unfolding to_bits units_of
bits_of = positive_elim (λ x. to_bits binary64 x ≡ tail (units_of x) * 2 ^ 52 + lead (units_of x)) (λ m e. rw zero-add)

module _ (x : Float) (f : T (fits binary64 x)) (h : positive x ≡ true) where
  -- the bits stand for the size
  pub magnitude-units : magnitude (to_bits binary64 x) ≡ units_of x
  magnitude-units = ap magnitude (bits_of x h) ∙ magnitude-is (lead (units_of x)) (tail (units_of x)) (lead-short (units_of x)) (lead-long (units_of x)) ∙ lead_is (units_of x) (grid x f)

  pub lead-above : 0 < lead (units_of x)
  lead-above = first_pos (lead (units_of x)) (2 ^ tail (units_of x)) (subst (λ (n : ℕ). 0 < n) (sym (lead_is (units_of x) (grid x f))) (units-above x f h))

  pub bits_above : 0 < to_bits binary64 x
  bits_above =
      let l = lead-above in
      rw (bits_of x h) (omega arith)

  pub bits_below : to_bits binary64 x < 2047 * 2 ^ 52
  bits_below =
      let t = tail-small (units_of x) (bounded x f) in
      let l = lead-short (units_of x) in
      rw (bits_of x h) (omega arith)
