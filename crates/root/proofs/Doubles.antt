-- The root of a double that is finite and above zero, by its digits and its bits. Assumes nothing.
use Rattle.std.proofs.Common.{◌≡◌, ℕ, suc, ◌+◌, ◌*◌, ◌/◌, ◌^◌, ◌<◌, ◌≤◌, Bool, true, false, cond, T, ltb, sym, ap, ◌∙◌, lt_of_lt_of_le, le_of_lt, mul-le-mul_right, mul_assoc, mul-lt-mul_of_pos_right, mul_right_comm, mul-div_cancel, arith, lit≤, ltb→lt, pow_pos, pow_mono, pow-add, shl_lt}
use lib.Ieee.{up, down, Float, inf, fin, binary64, low, emax, size, odd, units, fits, of_bits, to_bits}
use lib.Ieee.Fits.{down_pos, odd-fits, inf-fits}
use lib.Ieee.Exact.{HasValue, units_val}
use lib.Ieee.Bits.{of_bits-to_bits, is_true}
use lib.Ieee.Positive.{positive, positive_of_value}
use Rattle.root.specs.Root.{nearest_root, root}
use Rattle.root.specs.Nearest.{units_of}
use Rattle.root.specs.Steps.{Scaled, Rounded}
use Rattle.root.proofs.Places.{scaled-least, scaled-most}
use Rattle.root.proofs.Rounding.{rounded-unique, rounded-least, rounded-most}
use Rattle.root.proofs.Units.{positive_elim, exact, units-of-value, tail, lead, bits_of}
use Rattle.root.proofs.Whole.{size_is, nearest-root}

-- ---- r * 2 ^ k units as a double

pub units-fits : (r k : ℕ) → r < 2 ^ 53 → T (fits binary64 (units binary64 false r k))
unfolding units
units-fits r k h = go (ltb (r * 2 ^ k) (2 ^ (low binary64 + suc (emax binary64)))) (ltb→lt (r * 2 ^ k) (2 ^ (low binary64 + suc (emax binary64))))
  where
    go : (b : Bool) → (T b → r * 2 ^ k < 2 ^ (low binary64 + suc (emax binary64))) → T (fits binary64 (cond b (odd 54 false r k (low binary64)) (inf false)))
    go true l = odd-fits binary64 54 false r k (lt_of_lt_of_le h (lit≤ tt)) (le_of_lt h) (l tt)
    go false l = inf-fits binary64 false

module _ (r k : ℕ) (lo : 2 ^ 52 ≤ r) (hi : r < 2 ^ 53) (small : k < 2046) where
  pub units-value : HasValue (units binary64 false r k) false (r * 2 ^ k) (2 ^ 1074)
  units-value =
      let b : 53 + k ≤ 2098 = omega arith in
      units_val binary64 false r k (lt_of_lt_of_le (shl_lt 53 k hi) (pow_mono b))

  pub units-positive : T (positive (units binary64 false r k))
  units-positive = positive_of_value (units binary64 false r k) (r * 2 ^ k) (2 ^ 1074) units-value (lt_of_lt_of_le (pow_pos (52 + k)) (rw (pow-add 2 52 k) (mul-le-mul_right (2 ^ k) lo)))

  -- its bits: the exponent's field is k + 1, and r's leading digit adds the one
  pub units-bits : of_bits binary64 (k * 2 ^ 52 + r) ≡ units binary64 false r k
  units-bits =
      let x = units binary64 false r k in
      let z : size (r * 2 ^ k) ≡ 53 + k = size_is (r * 2 ^ k) k (mul-le-mul_right (2 ^ k) lo) (mul-lt-mul_of_pos_right hi (pow_pos k)) in
      let t : tail (r * 2 ^ k) ≡ k = omega arith in
      let b : to_bits binary64 x ≡ k * 2 ^ 52 + r =
      bits_of x (is_true (positive x) units-positive)
      ∙ ap (λ (n : ℕ). tail n * 2 ^ 52 + lead n) (units-of-value x false (r * 2 ^ k) units-value)
      ∙ ap (λ (j : ℕ). j * 2 ^ 52 + r * 2 ^ k / 2 ^ j) t
      ∙ ap (λ (c : ℕ). k * 2 ^ 52 + c) (mul-div_cancel r (pow_pos k)) in
      ap (of_bits binary64) (sym b) ∙ of_bits-to_bits binary64 x (units-fits r k hi)

-- ---- what `root` asks of `nearest_root`

square-units : (a d n p : ℕ) → 0 < d → a * p ≡ n * d → a * (p * p) / d ≡ n * p
square-units a d n p D e = ap (λ (x : ℕ). x / d) (sym (mul_assoc a p p) ∙ ap (λ (x : ℕ). x * p) e ∙ mul_right_comm n d p) ∙ mul-div_cancel (n * p) D

pub root_is : (x : Float) → T (fits binary64 x) → positive x ≡ true → root x ≡ nearest_root (units_of x * 2 ^ 1074)
unfolding root
root_is x f h = positive_elim (λ x. T (fits binary64 x) → root x ≡ nearest_root (units_of x * 2 ^ 1074)) (λ m e f. ap nearest_root (square-units (suc m * up e) (down e) (units_of (fin false (suc m) e)) (2 ^ 1074) (down_pos e) (exact (fin false (suc m) e) f))) x h f

-- ---- the root, by any digits of the double

module _ (x : Float) (f : T (fits binary64 x)) (h : positive x ≡ true) (d o k : ℕ) (s : Scaled (units_of x * 2 ^ 1074) d o k) where
  pub root-units : (r : ℕ) → Rounded (d * (1 + o)) r → root x ≡ units binary64 false r k
  root-units r p =
      let w = nearest-root (units_of x * 2 ^ 1074) (d * (1 + o)) k s.value (scaled-least s) (scaled-most s) in
      root_is x f h ∙ w.2 ∙ ap (λ (y : ℕ). units binary64 false y k) (rounded-unique (d * (1 + o)) w.0 r w.1 p)

  pub root-bits : (r : ℕ) → Rounded (d * (1 + o)) r → of_bits binary64 (k * 2 ^ 52 + r) ≡ root x
  root-bits r p = units-bits r k (rounded-least (d * (1 + o)) r (scaled-least s) (scaled-most s) p) (rounded-most (d * (1 + o)) r (scaled-least s) (scaled-most s) p) s.field ∙ sym (root-units r p)
