-- The theorems of specs/Nearest.antt: the root is the nearest double, fits, is finite and keeps the order. Assumes nothing.
use Rattle.std.proofs.Common.{◌≡◌, ℕ, zero, suc, ◌+◌, ◌-◌, ◌*◌, ◌/◌, ◌%◌, ◌^◌, ◌<◌, ◌≤◌, Bool, true, false, T, ◌⊎◌, ℤ, pos, sym, refl, ap, ◌∙◌, subst, inl, inr, ⊎_elim, true≢false, lt_of_le_of_lt, mul-le-mul_right, zero-lt-suc, mul_assoc, lt_of_mul-lt-mul_right, mul-lt-mul_of_pos_right, mul-pos, le_of_mul-le-mul_right, arith, pow_pos, pow-add, shl_lt, lt-ltb}
use lib.Ieee.{Float, nan, inf, fin, binary64, size, units, fits, le, eq, of_bits}
use lib.Ieee.Digits.{size-lt, size-le, size_reaches}
use lib.Ieee.Fits.{nan-fits}
use lib.Ieee.Bits.{is_true}
use lib.Ieee.Order.{le_of_values}
use lib.Ieee.Scale.{finite}
use lib.Ieee.Positive.{positive, positive-finite, values_of_le, above_of_le, above}
use Rattle.root.specs.Root.{root}
use Rattle.root.specs.Nearest.{units_of, Nearer, RootNearest, RootFits, RootFinite, RootMono}
use Rattle.root.specs.Steps.{Scaled, Rounded}
use Rattle.root.proofs.Doubles.{units-fits, units-value, units-positive, root_is}
use Rattle.root.proofs.Numbers.{le-or-lt, square_le, square-lt, four-pow, pow_lt_back}
use Rattle.root.proofs.Places.{scaled, scaled-least, scaled-most}
use Rattle.root.proofs.Rounding.{rounded-least, rounded-most}
use Rattle.root.proofs.Signs.{nonzero-eq, zero-below, zero_is, sorted, from_zero, root-zero}
use Rattle.root.proofs.Units.{Grid, grid, bounded, cut, tail, lead, lead_is, lead-short, tail-small, lead-above, units-of-value, units-value-of}
use Rattle.root.proofs.Whole.{nearest-root}

-- ---- the digits of a positive double: 53 of them, with zeros put after those of a subnormal

-- c with so many zeros after it has 53 digits
module _ (c : ℕ) (some : 0 < c) (short : c < 2 ^ 53) where
  sized : (0 < size c) × (size c ≤ 53)
  sized = (pow_lt_back 0 (size c) (lt_of_le_of_lt some (size-lt c)), size-le c 53 short)

  moved-least : 2 ^ 52 ≤ c * 2 ^ (53 - size c)
  moved-least =
      let z = sized in
      let e : 52 ≡ size c - 1 + (53 - size c) = omega arith in
      let l : size c - 1 < size c = omega arith in
      subst (λ (x : ℕ). x ≤ c * 2 ^ (53 - size c)) (sym (ap (λ (j : ℕ). 2 ^ j) e ∙ pow-add 2 (size c - 1) (53 - size c))) (mul-le-mul_right (2 ^ (53 - size c)) (size_reaches c (size c - 1) l))

  moved-most : c * 2 ^ (53 - size c) < 2 ^ 53
  moved-most =
      let z = sized in
      let e : size c + (53 - size c) ≡ 53 = omega arith in
      subst (λ (j : ℕ). c * 2 ^ (53 - size c) < 2 ^ j) e (shl_lt (size c) (53 - size c) (size-lt c))

-- t of the zeros moved from one power of two to another
regrouped : (c t p k l : ℕ) → t + p ≡ k + l → c * 2 ^ t * 2 ^ p ≡ c * 2 ^ k * 2 ^ l
regrouped c t p k l e = mul_assoc c (2 ^ t) (2 ^ p) ∙ ap (λ (x : ℕ). c * x) (sym (pow-add 2 t p) ∙ ap (λ (j : ℕ). 2 ^ j) e ∙ pow-add 2 k l) ∙ sym (mul_assoc c (2 ^ k) (2 ^ l))

digits_of : (x : Float) → T (fits binary64 x) → positive x ≡ true → (d : ℕ) × (o : ℕ) × (k : ℕ) × Scaled (units_of x * 2 ^ 1074) d o k
digits_of x f h =
    let n = units_of x in
    let c = lead n in
    let a = lead-above x f h in
    let t = 53 - size c in
    let p = 1074 + tail n - t in
    let s = sized c a (lead-short n) in
    let b = tail-small n (bounded x f) in
    let e : t + p ≡ tail n + 1074 = omega arith in (
      c * 2 ^ t,
      p % 2,
      (p - 52) / 2,
      subst (λ (y : ℕ). Scaled y (c * 2 ^ t) (p % 2) ((p - 52) / 2)) (regrouped c t p (tail n) 1074 e ∙ ap (λ (y : ℕ). y * 2 ^ 1074) (lead_is n (grid x f)))
          (scaled (c * 2 ^ t) p (moved-least c a (lead-short n)) (moved-most c a (lead-short n)) (omega arith) (omega arith)),
    )

-- ---- the root of a positive double is r * 2 ^ k units, where r is nearest the root of a * 2 ^ 52

record Rooted (x : Float) : Type 0 where
  a : ℕ
  r : ℕ
  k : ℕ
  value : a * 2 ^ 52 * 4 ^ k ≡ units_of x * 2 ^ 1074
  floor : 2 ^ 52 ≤ a
  rounded : Rounded a r
  least : 2 ^ 52 ≤ r
  most : r < 2 ^ 53
  small : k < 2046
  is : root x ≡ units binary64 false r k

rooted : (x : Float) → T (fits binary64 x) → positive x ≡ true → Rooted x
rooted x f h =
    let d = digits_of x f h in
    let s = d.3 in
    let a = d.0 * (1 + d.1) in
    let w = nearest-root (units_of x * 2 ^ 1074) a d.2 s.value (scaled-least s) (scaled-most s) in
    record {
      a = a;
      r = w.0;
      k = d.2;
      value = s.value;
      floor = scaled-least s;
      rounded = w.1;
      least = rounded-least a w.0 (scaled-least s) (scaled-most s) w.1;
      most = rounded-most a w.0 (scaled-least s) (scaled-most s) w.1;
      small = s.field;
      is = root_is x f h ∙ w.2;
    }

-- ---- nearest: in steps of P, nothing lies between r * P and the next step; below it a smaller step may, where r * P is not above the root

module _ (n A r P y : ℕ) (e : A * (P * P) ≡ n) (pos : 0 < P) (some : 0 < r) (low : r * r < A + r) (high : A ≤ r * r + r) where
  from-above : (r + 1) * P ≤ y → 4 * n < (r * P + y) * (r * P + y)
  from-above h =
      let l : 4 * A < (2 * r + 1) * (2 * r + 1) = omega arith in
      let u : (2 * r + 1) * P ≤ r * P + y = omega arith in
      omega (arith, square_le ((2 * r + 1) * P) (r * P + y) u, mul-lt-mul_of_pos_right l (mul-pos pos pos))

  from-below : y + P ≤ r * P → (r * P + y) * (r * P + y) < 4 * n
  from-below h =
      let t = r - 1 in
      let q : suc t ≡ r = omega arith in
      let s : suc t * suc t ≡ r * r = ap (λ (x : ℕ). x * x) q in
      let p : suc t * P ≡ r * P = ap (λ (x : ℕ). x * P) q in
      let l : (2 * t + 1) * (2 * t + 1) < 4 * A = omega arith in
      let u : r * P + y ≤ (2 * t + 1) * P = omega arith in
      omega (arith, square_le (r * P + y) ((2 * t + 1) * P) u, mul-lt-mul_of_pos_right l (mul-pos pos pos))

  from-least : y < r * P → r * r ≤ A → (r * P + y) * (r * P + y) < 4 * n
  from-least l h =
      let u : r * P + y < r * P + r * P = omega arith in
      omega (arith, square-lt (r * P + y) (r * P + r * P) u, mul-le-mul_right (P * P) h)

  nearer : (r * P < y → (r + 1) * P ≤ y) → (y < r * P → (y + P ≤ r * P) ⊎ (r * r ≤ A)) → Nearer n (r * P) y
  nearer f g = record { below = λ h. from-above (f h); above = λ h. ⊎_elim from-below (from-least h) (g h) }

-- from 2 ^ (52 + k) units on a double is a multiple of 2 ^ k
steps : (y k : ℕ) → Grid y → 2 ^ 52 * 2 ^ k ≤ y → (c : ℕ) × (y ≡ c * 2 ^ k)
steps y k g h =
    let b : y < 2 ^ (53 + g.places) = subst (λ (x : ℕ). x < 2 ^ (53 + g.places)) (sym g.is) (shl_lt 53 g.places g.short) in
    let l : 52 + k < 53 + g.places = pow_lt_back (52 + k) (53 + g.places) (lt_of_le_of_lt (rw (pow-add 2 52 k) h) b) in
    (g.digits * 2 ^ (g.places - k), cut y k g (omega arith))

module _ (r k y : ℕ) (g : Grid y) where
  step-above : 2 ^ 52 ≤ r → r * 2 ^ k < y → (r + 1) * 2 ^ k ≤ y
  step-above l h =
      let s = steps y k g (omega (arith, mul-le-mul_right (2 ^ k) l)) in
      let c : r < s.0 = lt_of_mul-lt-mul_right (2 ^ k) (subst (λ (x : ℕ). r * 2 ^ k < x) s.1 h) in
      omega (arith, mul-le-mul_right (2 ^ k) c, s.1)

  step-below : y < r * 2 ^ k → (y + 2 ^ k ≤ r * 2 ^ k) ⊎ (r ≤ 2 ^ 52)
  step-below h = go (le-or-lt (2 ^ 52 * 2 ^ k) y) (le-or-lt r (2 ^ 52))
    where
      go : (2 ^ 52 * 2 ^ k ≤ y) ⊎ (y < 2 ^ 52 * 2 ^ k) → (r ≤ 2 ^ 52) ⊎ (2 ^ 52 < r) → (y + 2 ^ k ≤ r * 2 ^ k) ⊎ (r ≤ 2 ^ 52)
      go (inl l) b =
          let s = steps y k g l in
          let c : s.0 < r = lt_of_mul-lt-mul_right (2 ^ k) (subst (λ (x : ℕ). x < r * 2 ^ k) s.1 h) in
          inl (omega (arith, mul-le-mul_right (2 ^ k) c, s.1))
      go (inr l) (inl b) = inr b
      go (inr l) (inr b) = inl (omega (arith, mul-le-mul_right (2 ^ k) b))

rooted-nearer : (x : Float) (o : Rooted x) (y : ℕ) → Grid y → Nearer (units_of x * 2 ^ 1074) (o.r * 2 ^ o.k) y
rooted-nearer x o y g =
    nearer (units_of x * 2 ^ 1074) (o.a * 2 ^ 52) o.r (2 ^ o.k) y (ap (λ (z : ℕ). o.a * 2 ^ 52 * z) (sym (four-pow o.k)) ∙ o.value) (pow_pos o.k) (some o.r o.least) o.rounded.below o.rounded.above
    (step-above o.r o.k y g o.least)
    (λ h. ⊎_elim inl (λ (b : o.r ≤ 2 ^ 52). inr (least o.a o.r o.floor b)) (step-below o.r o.k y g h))
  where
    some : (r : ℕ) → 2 ^ 52 ≤ r → 0 < r
    some r h = omega arith

    least : (a r : ℕ) → 2 ^ 52 ≤ a → r ≤ 2 ^ 52 → r * r ≤ a * 2 ^ 52
    least a r h l = omega (arith, square_le r (2 ^ 52) l)

pub root-nearest : RootNearest
root-nearest x f h =
    let o = rooted x f h in
    let z = units binary64 false o.r o.k in (
      ap positive o.is ∙ is_true (positive z) (units-positive o.r o.k o.least o.most o.small),
      λ y g _. subst (λ (n : ℕ). Nearer (units_of x * 2 ^ 1074) n (units_of y)) (sym (ap units_of o.is ∙ units-of-value z false (o.r * 2 ^ o.k) (units-value o.r o.k o.least o.most o.small))) (rooted-nearer x o (units_of y) (grid y g)),
    )

-- ---- what follows

pub root-fits : RootFits
unfolding root
root-fits nan f = f
root-fits (inf true) f = nan-fits binary64
root-fits (inf false) f = f
root-fits (fin s zero e) f = f
root-fits (fin true (suc m) e) f = nan-fits binary64
root-fits (fin false (suc m) e) f =
    let o = rooted (fin false (suc m) e) f (lt-ltb 0 (suc m) (zero-lt-suc m)) in
    subst (λ (y : Float). T (fits binary64 y)) (sym o.is) (units-fits o.r o.k o.most)

yes : {b : Bool} → b ≡ true → T b
yes h = subst T (sym h) tt

positive-is-finite : (x : Float) → positive x ≡ true → finite x ≡ true
positive-is-finite x h = is_true (finite x) (positive-finite x (yes h))

positive-le : (x : Float) → positive x ≡ true → le (of_bits binary64 0) x ≡ true
positive-le x h = rw zero_is (zero-below false (pos 0) x h)

pub root-finite : RootFinite
root-finite x f g h = go (from_zero x h g)
  where
    go : (positive x ≡ true) ⊎ (eq x (of_bits binary64 0) ≡ true) → (finite (root x) ≡ true) × (le (of_bits binary64 0) (root x) ≡ true)
    go (inl p) =
        let q = (root-nearest x f p).0 in
        (positive-is-finite (root x) q, positive-le (root x) q)
    go (inr z) = rw (root-zero x z) (g, h)

-- of two numbers the larger is not nearest a smaller root
in_order : (n m r s : ℕ) → n ≤ m → Nearer n r s → Nearer m s r → r ≤ s
in_order n m r s h p q = ⊎_elim (λ l. l) (λ (g : s < r). absurd (no (p.above g) (q.below g))) (le-or-lt r s)
  where
    no : (r + s) * (r + s) < 4 * n → 4 * m < (s + r) * (s + r) → ⊥
    no a b = omega arith

above-finite : (x : Float) → T (above x) → finite x ≡ true → positive x ≡ true
above-finite nan a f = absurd a
above-finite (inf s) a f = absurd (true≢false (sym f))
above-finite (fin true m e) a f = absurd a
above-finite (fin false m e) a f = is_true (positive (fin false m e)) a

positive-mono : (x y : Float) → T (fits binary64 x) → T (fits binary64 y) → positive x ≡ true → positive y ≡ true → le x y ≡ true → le (root x) (root y) ≡ true
positive-mono x y f g p q h =
    let L = 2 ^ 1074 in
    let a = root-nearest x f p in
    let b = root-nearest y g q in
    let u : units_of x ≤ units_of y = le_of_mul-le-mul_right (values_of_le x y (units_of x) L (units_of y) L (yes p) (yes q) (units-value-of x f p) (units-value-of y g q) (yes h)) (pow_pos 1074) in
    let r : units_of (root x) ≤ units_of (root y) =
    in_order (units_of x * L) (units_of y * L) (units_of (root x)) (units_of (root y)) (mul-le-mul_right L u)
    (a.1 (root y) (root-fits y g) (positive-is-finite (root y) b.0))
    (b.1 (root x) (root-fits x f) (positive-is-finite (root x) a.0)) in
    is_true (le (root x) (root y))
    (le_of_values (root x) (root y) (units_of (root x)) L (units_of (root y)) L (pow_pos 1074) (pow_pos 1074) (units-value-of (root x) (root-fits x f) a.0) (units-value-of (root y) (root-fits y g) b.0) (mul-le-mul_right L r))

zero-mono : (s : Bool) (e : ℤ) (y : Float) → T (fits binary64 y) → le (fin s zero e) y ≡ true → finite y ≡ true → le (fin s zero e) (root y) ≡ true
zero-mono s e y g h f = ⊎_elim (λ (q : positive y ≡ true). zero-below s e (root y) (root-nearest y g q).0) (λ (z : eq y (of_bits binary64 0) ≡ true). rw (root-zero y z) h) (sorted s e y h f)

pub root-mono : RootMono
root-mono nan y f g p h k = absurd (true≢false (sym p ∙ unfold le of_bits in refl))
root-mono (inf true) y f g p h k = absurd (true≢false (sym p ∙ unfold le of_bits in refl))
root-mono (inf false) y f g p h k = absurd (above_infinity y h k)
  where
    above_infinity : (y : Float) → le (inf false) y ≡ true → finite y ≡ true → ⊥
    above_infinity nan h k = true≢false (sym k)
    above_infinity (inf t) h k = true≢false (sym k)
    above_infinity (fin t n d) h k = true≢false (sym h ∙ unfold le in refl)
root-mono (fin s zero e) y f g p h k = unfold root in zero-mono s e y g h k
root-mono (fin s (suc m) e) y f g p h k = go (from_zero (fin s (suc m) e) p refl)
  where
    go : (positive (fin s (suc m) e) ≡ true) ⊎ (eq (fin s (suc m) e) (of_bits binary64 0) ≡ true) → le (root (fin s (suc m) e)) (root y) ≡ true
    go (inl q) = positive-mono (fin s (suc m) e) y f g q (above-finite y (above_of_le (fin s (suc m) e) y (yes q) (yes h)) k) h
    go (inr z) = absurd (true≢false (sym z ∙ nonzero-eq s m e))
