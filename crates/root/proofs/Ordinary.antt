-- The doubles from the smallest that is not subnormal to the largest, by their tests and their bits; and their roots, begun. Assumes nothing.
use Rattle.std.proofs.Common.{◌≡◌, ℕ, ◌+◌, ◌*◌, ◌^◌, ◌≤◌, Bool, true, false, not, T, ◌⊎◌, negsuc, sym, refl, ap, ◌∙◌, subst, inl, inr, true≢false, mul-one, le_of_mul-le-mul_right, arith, pow_pos}
use lib.Ieee.{Float, nan, inf, fin, binary64, le, eq, fits, is_nan, of_bits, to_bits}
use lib.Ieee.Bits.{is_true}
use lib.Ieee.Positive.{positive, values_of_le, above_of_le, above}
use Rattle.root.specs.Root.{root}
use Rattle.root.specs.Nearest.{units_of}
use Rattle.root.specs.Steps.{Scaled, magnitude}
use Rattle.root.specs.Begun.{Begins}
use Rattle.root.proofs.Doubles.{root-bits}
use Rattle.root.proofs.Places.{scaled-least, scaled-most}
use Rattle.root.proofs.Signs.{not-up-to}
use Rattle.root.proofs.Units.{grid, tail, lead, lead_is, lead-long, bits_of, units-value-of, magnitude-units}

-- the smallest double that is not subnormal, and the largest double
abbrev smallest : Float
smallest = of_bits binary64 0x10_0000_0000_0000

abbrev largest : Float
largest = of_bits binary64 0x7FEF_FFFF_FFFF_FFFF

-- what equals itself is no NaN
pub eq-no-nan : (x : Float) → eq x x ≡ true → T (not (is_nan x))
unfolding eq is_nan
eq-no-nan nan h = absurd (true≢false (sym h))
eq-no-nan (inf s) h = tt
eq-no-nan (fin s m e) h = tt

yes : {b : Bool} → b ≡ true → T b
yes e = subst T (sym e) tt

up_to : (x : Float) → T (above x) → le x largest ≡ true → positive x ≡ true
up_to nan a k = absurd a
up_to (inf true) a k = absurd a
up_to (inf false) a k = absurd (true≢false (sym k ∙ not-up-to))
up_to (fin true m e) a k = absurd a
up_to (fin false m e) a k = is_true (positive (fin false m e)) a

smallest-is : smallest ≡ fin false 1 (negsuc 1021)
unfolding of_bits
smallest-is = refl

module _ (x : Float) (f : T (fits binary64 x)) (h : le smallest x ≡ true) (k : le x largest ≡ true) where
  from-smallest : T (le (fin false 1 (negsuc 1021)) x)
  from-smallest = yes (rw smallest-is at h)

  pub normal-positive : positive x ≡ true
  normal-positive = up_to x (above_of_le (fin false 1 (negsuc 1021)) x tt from-smallest) k

  normal-units : 2 ^ 52 ≤ units_of x
  normal-units = le_of_mul-le-mul_right (values_of_le (fin false 1 (negsuc 1021)) x (2 ^ 52) (2 ^ 1074) (units_of x) (2 ^ 1074) tt (yes normal-positive) (refl, refl) (units-value-of x f normal-positive) from-smallest) (pow_pos 1074)

  pub normal-bits : 2 ^ 52 ≤ to_bits binary64 x
  normal-bits = subst (λ (b : ℕ). 2 ^ 52 ≤ b) (sym (bits_of x normal-positive)) (go (lead-long (units_of x)))
    where
      go : (2 ^ 52 ≤ lead (units_of x)) ⊎ (tail (units_of x) ≡ 0) → 2 ^ 52 ≤ tail (units_of x) * 2 ^ 52 + lead (units_of x)
      go (inl l) = omega arith
      go (inr z) =
          let u = normal-units in
          let e : lead (units_of x) ≡ units_of x = sym (mul-one (lead (units_of x))) ∙ ap (λ (t : ℕ). lead (units_of x) * 2 ^ t) (sym z) ∙ lead_is (units_of x) (grid x f) in
          omega arith

-- ---- what `scale` finds begins the root

pub begins : (x : Float) → T (fits binary64 x) → positive x ≡ true → {d o k : ℕ} → Scaled (magnitude (to_bits binary64 x) * 2 ^ 1074) d o k → Begins (root x) (d * (1 + o)) (k * 2 ^ 52)
begins x f h {d} {o} {k} s = record {
  least = scaled-least s;
  most = scaled-most s;
  field = omega (arith, s.field);
  ends = root-bits x f h d o k (subst (λ (n : ℕ). Scaled (n * 2 ^ 1074) d o k) (magnitude-units x f h) s);
}
