-- An interpolation between two coordinates is a coordinate, in spite of its three roundings. Assumes nothing.
-- With d = b - a rounded and p = d * t rounded, p lies between 0 and d, since d is a value of the format.
-- So a + p lies between a and a + d, which is at most 2 ^ -29 past b, and 2 ^ 24 + 2 ^ -29 still rounds to 2 ^ 24.
use mathlib.Core.Path.{◌≡◌, refl, sym, ap, ◌∙◌, subst}
use Prim.Native.Nat.{ℕ, ◌+◌, ◌*◌, ◌^◌, ◌≤◌, ◌<◌}
use native.Mathlib.Nat.{mul-pos, mul-le-mul_right}
use native.Mathlib.Omega.{arith}
use mathlib.Core.Bool.{Bool, true, false, ◌&&◌}
use lib.IntN.{pos}
use lib.Dec.{T, lit<}
use lib.Pow.{pow_pos}
use lib.Ieee.{Float, fin, binary64, round, neg, add, sub, mul, le, fits, of_bits}
use lib.Ieee.Bits.{is_true}
use lib.Ieee.Fits.{and_i, and_l, and_r, sub-fits}
use lib.Ieee.Scale.{finite}
use Rattle.geometry.specs.Float.{reach, coordinate, fraction, mix}
use Rattle.geometry.specs.Bounds.{nought, Between}
use Rattle.geometry.proofs.Frac.{Frac, whole, opp, ◌⊕◌, ◌⊗◌, ◌≼◌, ≼_refl, ≼_trans, opp_anti, ⊕-mono, ⊗-mono-r, ⊗-anti-r, ⊗-pos}
use Rattle.geometry.proofs.Compare.{holds, above, under, val, den_pos, le_of, Le→≼, Le-finite, Within, within}
use Rattle.geometry.proofs.Rounding.{rounds-mono, at_most, at_least, add_rounds, sub-rounds, mul-rounds, zero-fits}
use Rattle.geometry.proofs.Rounding.{round-neg, val-neg, neg-finite}
use Rattle.geometry.proofs.Near.{risen, Risen, rises}

-- ---- the two tests, taken apart
both : (p q : Bool) → p ≡ true → q ≡ true → p && q ≡ true
both p q h k = is_true (p && q) (and_i p q (holds h) (holds k))

first : (p q : Bool) → p && q ≡ true → p ≡ true
first p q h = is_true p (and_l p q (holds h))

second : (p q : Bool) → p && q ≡ true → q ≡ true
second p q h = is_true q (and_r p q (holds h))

split : (lo x hi : Float) → le lo x && le x hi ≡ true → Between lo x hi
split lo x hi h = record { low = first (le lo x) (le x hi) h; high = second (le lo x) (le x hi) h }

pub coordinate-between : (x : Float) → coordinate x ≡ true → Between (neg reach) x reach
unfolding coordinate
coordinate-between x h = split (neg reach) x reach h

pub between-coordinate : (x : Float) → Between (neg reach) x reach → coordinate x ≡ true
unfolding coordinate
between-coordinate x b = both (le (neg reach) x) (le x reach) b.low b.high

pub fraction-between : (t : Float) → fraction t ≡ true → Between nought t (of_bits binary64 0x3FF0000000000000)
unfolding fraction
fraction-between t h = split nought t (of_bits binary64 0x3FF0000000000000) h

-- ---- and as fractions
pub reach_is : reach ≡ fin false 1 (pos 24)
unfolding reach of_bits
reach_is = refl

abbrev zero : Float
zero = fin false 0 (pos 0)

abbrev Coordinate : Float → Type 0
Coordinate x = Within (fin true 1 (pos 24)) x (fin false 1 (pos 24))

abbrev Fraction : Float → Type 0
Fraction t = Within zero t (fin false 1 (pos 0))

pub coordinate-within : (x : Float) → coordinate x ≡ true → Within (fin true 1 (pos 24)) x (fin false 1 (pos 24))
unfolding reach neg of_bits
coordinate-within x h = within (coordinate-between x h) tt tt

fraction-within : (t : Float) → fraction t ≡ true → Fraction t
unfolding of_bits
fraction-within t h = within (fraction-between t h) tt tt

-- ---- the bounds, as fractions
abbrev top : Frac
top = whole (2 ^ 24)

-- 2 ^ 24 + 2 ^ -29, which rounds to 2 ^ 24
abbrev rim : Frac
rim = record { plus = 2 ^ 53 + 1; minus = 0; den = 2 ^ 29 }

-- b - a is k over the product of the two dens
abbrev Gap : Frac → Frac → ℕ → Type 0
Gap a b k = k + (b.minus * a.den + a.plus * b.den) ≡ b.plus * a.den + a.minus * b.den

gap-le : (a b : Frac) (k : ℕ) → Gap a b k → opp top ≼ a → b ≼ top → k ≤ 2 ^ 25 * (b.den * a.den)
gap-le a b k g h l = omega (arith, mul-le-mul_right b.den h, mul-le-mul_right a.den l)

-- a and b - a and 2 ^ -29 are at most 2 ^ 24 + 2 ^ -29
edge : (a b : Frac) (k : ℕ) → Gap a b k → b ≼ top → a ⊕ risen k (b.den * a.den) ≼ rim
edge a b k g h = go a.plus a.minus a.den b.plus b.minus b.den g h
  where
    go : (pa na da pb nb db : ℕ) → k + (nb * da + pa * db) ≡ pb * da + na * db → pb * 1 + 0 * db ≤ 2 ^ 24 * db + nb * 1
        → (pa * (db * da * 2 ^ 29) + (k * 2 ^ 29 + db * da) * da) * 2 ^ 29 + 0 * (da * (db * da * 2 ^ 29))
        ≤ (2 ^ 53 + 1) * (da * (db * da * 2 ^ 29)) + (na * (db * da * 2 ^ 29) + 0 * da) * 2 ^ 29
    go pa na da pb nb db g h =
        let i : pa * db + k ≤ 2 ^ 24 * (db * da) + na * db = omega (arith, mul-le-mul_right da h) in
        omega (arith, mul-le-mul_right da i)

upper : (a b d p : Frac) (k : ℕ) → 0 < a.den → 0 < b.den → 0 < d.den
    → Gap a b k → b ≼ top → d ≼ risen k (b.den * a.den) → p ≼ d → a ⊕ p ≼ rim
upper a b d p k A B D g h l m =
    let q = risen k (b.den * a.den) in
    ≼_trans (a ⊕ p) (a ⊕ q) rim (mul-pos A (mul-pos (mul-pos B A) (pow_pos 29)))
    (⊕-mono a a p q (≼_refl a) (≼_trans p d q D m l)) (edge a b k g h)

lower : (a p : Frac) → opp top ≼ a → whole 0 ≼ p → opp rim ≼ a ⊕ p
lower a p h k = ≼_trans (opp rim) (opp top ⊕ whole 0) (a ⊕ p) (lit< tt) (omega arith) (⊕-mono (opp top) a (whole 0) p h k)

-- ---- a factor from 0 to 1 moves a fraction towards 0, and not past it
module _ (d t : Frac) (D : 0 < d.den) where
  shrinks : whole 0 ≼ d → t ≼ whole 1 → d ⊗ t ≼ d
  shrinks h k = ≼_trans (d ⊗ t) (d ⊗ whole 1) d (mul-pos D (lit< tt)) (⊗-mono-r d t (whole 1) h k) (omega arith)

  shrinks-neg : d ≼ whole 0 → t ≼ whole 1 → d ≼ d ⊗ t
  shrinks-neg h k = ≼_trans d (d ⊗ whole 1) (d ⊗ t) (mul-pos D (lit< tt)) (omega arith) (⊗-anti-r d t (whole 1) h k)

  not-past : d ≼ whole 0 → whole 0 ≼ t → d ⊗ t ≼ whole 0
  not-past h k = ≼_trans (d ⊗ t) (d ⊗ whole 0) (whole 0) (mul-pos D (lit< tt)) (⊗-anti-r d (whole 0) t h k) (omega arith)

-- ---- the last sum
rim-is : (s : Bool) → fin s 1 (pos 24) ≡ round binary64 s (2 ^ 53 + 1) (2 ^ 29)
unfolding round
rim-is false = refl
rim-is true = refl

lands : (a p : Float) → T (finite a) → T (finite p) → opp rim ≼ val a ⊕ val p → val a ⊕ val p ≼ rim → coordinate (add binary64 a p) ≡ true
unfolding reach neg of_bits
lands a p A P l u =
    let r = add binary64 a p in
    let e = add_rounds binary64 a p A P in
    between-coordinate r (record {
      low = le_of (neg reach) r
          (rounds-mono (record { sign = true; size = 2 ^ 53 + 1; is = rim-is true; here = refl; over = lit< tt }) e l);
      high = le_of r reach
          (rounds-mono e (record { sign = false; size = 2 ^ 53 + 1; is = rim-is false; here = refl; over = lit< tt }) u);
    })

-- ---- the two directions: d is not negative, and d is not positive
module _ (a b t : Float) (A : Coordinate a) (B : Coordinate b) (F : Fraction t) (d : Float) (fit : T (fits binary64 d)) where
  rising : (k : ℕ) → Gap (val a) (val b) k → Risen d k ((val b).den * (val a).den) → coordinate (add binary64 a (mul binary64 d t)) ≡ true
  rising k g r =
      let D = den_pos d in
      let p = mul binary64 d t in
      let m = mul-rounds binary64 d t r.is_finite F.is_finite in
      let l = at_least zero m (zero-fits binary64) tt (⊗-pos (val d) (val t) r.from F.from) in
      let u = at_most d m fit r.is_finite (shrinks (val d) (val t) D r.from F.to) in
      let P = Le-finite zero p d tt r.is_finite l u in
      lands a p A.is_finite P (lower (val a) (val p) A.from (Le→≼ zero p tt P l))
      (upper (val a) (val b) (val d) (val p) k (den_pos a) (den_pos b) D g B.to r.to (Le→≼ p d P r.is_finite u))

  falling : (k : ℕ) → Gap (opp (val a)) (opp (val b)) k → T (finite d) → val d ≼ whole 0 → opp (val d) ≼ risen k ((val b).den * (val a).den)
      → coordinate (add binary64 a (mul binary64 d t)) ≡ true
  falling k g S h low-d =
      let D = den_pos d in
      let p = mul binary64 d t in
      let m = mul-rounds binary64 d t S F.is_finite in
      let u = at_most zero m (zero-fits binary64) tt (not-past (val d) (val t) D h F.from) in
      let l = at_least d m fit S (shrinks-neg (val d) (val t) D h F.to) in
      let P = Le-finite d p zero S tt l u in
      let v = opp_anti (val p) (whole 0) (Le→≼ p zero P tt u) in
      let w = opp_anti (val d) (val p) (Le→≼ d p S P l) in
      let x = opp_anti (val a) top A.to in
      let y = opp_anti (opp top) (val b) B.from in
      lands a p A.is_finite P
      (opp_anti (opp (val a) ⊕ opp (val p)) rim
      (upper (opp (val a)) (opp (val b)) (opp (val d)) (opp (val p)) k (den_pos a) (den_pos b) D g y low-d w))
      (opp_anti (opp rim) (opp (val a) ⊕ opp (val p)) (lower (opp (val a)) (opp (val p)) x v))

-- between two coordinates, at any fraction from 0 to 1, lies a coordinate: nothing else is asked of the three values
pub mix-coordinate : (a b t : Float) → coordinate a ≡ true → coordinate b ≡ true → fraction t ≡ true → coordinate (mix a b t) ≡ true
unfolding mix
mix-coordinate a b t ha hb ht =
    let r = sub-rounds binary64 b a B.is_finite A.is_finite in
    go r.sign r.size r.is r.here
  where
    A : Coordinate a
    A = coordinate-within a ha

    B : Coordinate b
    B = coordinate-within b hb

    F : Fraction t
    F = fraction-within t ht

    d : Float
    d = sub binary64 b a

    c : ℕ
    c = (val b).den * (val a).den

    C : 0 < c
    C = mul-pos (den_pos b) (den_pos a)

    go : (s : Bool) (k : ℕ) → d ≡ round binary64 s k c → above s k + (val b ⊕ opp (val a)).minus ≡ (val b ⊕ opp (val a)).plus + under s k
        → coordinate (add binary64 a (mul binary64 d t)) ≡ true
    go false k e h =
        let g : Gap (val a) (val b) k = omega arith in
        let r = rises k c C (gap-le (val a) (val b) k g A.from B.to) in
        rising a b t A B F d (sub-fits binary64 b a) k g (subst (λ (x : Float). Risen x k c) (sym e) r)
    go true k e h =
        let g : Gap (opp (val a)) (opp (val b)) k = omega arith in
        let x = opp_anti (val a) top A.to in
        let y = opp_anti (opp top) (val b) B.from in
        let r = rises k c C (gap-le (opp (val a)) (opp (val b)) k g x y) in
        let z = round binary64 false k c in
        let n : d ≡ neg z = e ∙ round-neg binary64 k c in
        let v : val d ≡ opp (val z) = ap val n ∙ val-neg z in
        falling a b t A B F d (sub-fits binary64 b a) k g (subst (λ (w : Float). T (finite w)) (sym n) (neg-finite z r.is_finite))
        (subst (λ (w : Frac). w ≼ whole 0) (sym v) (opp_anti (whole 0) (val z) r.from))
        (subst (λ (w : Frac). opp w ≼ risen k c) (sym v) r.to)
