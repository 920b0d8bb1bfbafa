-- The order of floats as an order of signed fractions: `Le` says without a test what `le` tests, infinities and NaNs included.
-- The laws to cite are in Order.antt. Assumes nothing.
use mathlib.Core.Path.{◌≡◌, sym, subst}
use mathlib.Core.Logic.{◌⊎◌, inl, inr}
use Prim.Native.Nat.{ℕ, ◌+◌, ◌*◌, ◌≤◌, ◌<◌}
use native.Mathlib.Nat.{le_of_eq, eq-or-lt_of_le, le_of_lt, eq-zero-or-pos}
use native.Mathlib.Omega.{arith}
use mathlib.Core.Bool.{Bool, true, false, not, ◌&&◌, ◌||◌}
use lib.Dec.{T, ltb, eqb, ltb→lt, lt→ltb, eqb→eq}
use lib.Ieee.{Float, nan, inf, fin, up, down, neg, lt, eq, le, is_nan}
use lib.Ieee.Bits.{is_true}
use lib.Ieee.Fits.{down_pos, and_i, and_l, and_r, eq→eqb}
use lib.Ieee.Scale.{finite}
use Rattle.geometry.specs.Bounds.{Between}
use Rattle.geometry.proofs.Frac.{Frac, whole, ◌≼◌, ≼_trans, either}

-- ---- a Bool test as a fact
pub holds : {b : Bool} → b ≡ true → T b
holds e = subst T (sym e) tt

pub fails : {b : Bool} → b ≡ false → T (not b)
fails e = subst (λ (b : Bool). T (not b)) (sym e) tt

-- ---- a finite value as a signed fraction, and 0 / 1 for a NaN and an infinity
abbrev pub above : Bool → ℕ → ℕ
above false k = k
above true k = 0

abbrev pub under : Bool → ℕ → ℕ
under false k = 0
under true k = k

abbrev pub val : Float → Frac
val nan = whole 0
val (inf s) = whole 0
val (fin s m e) = record { plus = above s (m * up e); minus = under s (m * up e); den = down e }

pub den_pos : (x : Float) → 0 < (val x).den
den_pos nan = omega arith
den_pos (inf s) = omega arith
den_pos (fin s m e) = down_pos e

-- ---- `le`, said without a test
abbrev pub Le : Float → Float → Type 0
Le nan y = ⊥
Le (inf s) nan = ⊥
Le (inf s) (inf t) = T (s || not t)
Le (inf s) (fin t n d) = T s
Le (fin s m e) nan = ⊥
Le (fin s m e) (inf t) = T (not t)
Le (fin s m e) (fin t n d) = val (fin s m e) ≼ val (fin t n d)

-- between finite values it is the order of the fractions
pub Le→≼ : (x y : Float) → T (finite x) → T (finite y) → Le x y → val x ≼ val y
Le→≼ nan y p q h = absurd p
Le→≼ (inf s) y p q h = absurd p
Le→≼ (fin s m e) nan p q h = absurd q
Le→≼ (fin s m e) (inf t) p q h = absurd q
Le→≼ (fin s m e) (fin t n d) p q h = h

-- `le` is `lt` or `eq`
one_of : {X : Type 0} (p q : Bool) → (T p → X) → (T q → X) → T (p || (q && true)) → X
one_of true q l r t = l tt
one_of false true l r t = r tt
one_of false false l r t = absurd t

pub left : (p q : Bool) → T p → T (p || q)
left true q t = tt
left false q t = absurd t

right : (p q r : Bool) → T q → T r → T (p || (q && r))
right true q r t u = tt
right false true r t u = u
right false false r t u = t

pub T→Le : (x y : Float) → T (le x y) → Le x y
unfolding le
T→Le nan y h = h
T→Le (inf s) nan h = h
T→Le (inf true) (inf t) h = tt
T→Le (inf false) (inf true) h = h
T→Le (inf false) (inf false) h = tt
T→Le (inf true) (fin t n d) h = tt
T→Le (inf false) (fin t n d) h = h
T→Le (fin s m e) nan h = h
T→Le (fin s m e) (inf true) h = h
T→Le (fin s m e) (inf false) h = tt
T→Le (fin false m e) (fin false n d) h =
    let a = m * up e * down d in
    let b = n * up d * down e in
    let k : a ≤ b = one_of (ltb a b) (eqb a b) (λ t. le_of_lt (ltb→lt a b t)) (λ t. le_of_eq (eqb→eq a b t)) h in
    omega arith
T→Le (fin false m e) (fin true n d) h =
    let a = m * up e * down d in
    let b = n * up d * down e in
    let z = eqb→eq a 0 (and_r (eqb a b) (eqb a 0) h) in
    let e = eqb→eq a b (and_l (eqb a b) (eqb a 0) h) in
    omega arith
T→Le (fin true m e) (fin false n d) h = omega arith
T→Le (fin true m e) (fin true n d) h =
    let a = m * up e * down d in
    let b = n * up d * down e in
    let k : b ≤ a = one_of (ltb b a) (eqb a b) (λ t. le_of_lt (ltb→lt b a t)) (λ t. le_of_eq (sym (eqb→eq a b t))) h in
    omega arith

pub Le→T : (x y : Float) → Le x y → T (le x y)
unfolding le
Le→T nan y h = h
Le→T (inf s) nan h = h
Le→T (inf true) (inf true) h = tt
Le→T (inf true) (inf false) h = tt
Le→T (inf false) (inf true) h = h
Le→T (inf false) (inf false) h = tt
Le→T (inf true) (fin t n d) h = tt
Le→T (inf false) (fin t n d) h = h
Le→T (fin s m e) nan h = h
Le→T (fin s m e) (inf true) h = h
Le→T (fin s m e) (inf false) h = tt
Le→T (fin false m e) (fin false n d) h =
    let a = m * up e * down d in
    let b = n * up d * down e in
    let k : a ≤ b = omega arith in
    elim (eq-or-lt_of_le k) [
      | inl p ↦ right (ltb a b) (eqb a b) true (eq→eqb p) tt
      | inr l ↦ left (ltb a b) (eqb a b && true) (lt→ltb a b l)
    ]
Le→T (fin false m e) (fin true n d) h =
    let a = m * up e * down d in
    let b = n * up d * down e in
    let z : a ≡ 0 = omega arith in
    let p : a ≡ b = omega arith in
    and_i (eqb a b) (eqb a 0) (eq→eqb p) (eq→eqb z)
Le→T (fin true m e) (fin false n d) h =
    let a = m * up e * down d in
    let b = n * up d * down e in
    elim (eq-zero-or-pos (a + b)) [
      | inl z ↦
          let p : a ≡ b = omega arith in
          let q : a ≡ 0 = omega arith in
          right (ltb 0 (a + b)) (eqb a b) (eqb a 0) (eq→eqb p) (eq→eqb q)
      | inr l ↦ left (ltb 0 (a + b)) (eqb a b && eqb a 0) (lt→ltb 0 (a + b) l)
    ]
Le→T (fin true m e) (fin true n d) h =
    let a = m * up e * down d in
    let b = n * up d * down e in
    let k : b ≤ a = omega arith in
    elim (eq-or-lt_of_le k) [
      | inl p ↦ right (ltb b a) (eqb a b) true (eq→eqb (sym p)) tt
      | inr l ↦ left (ltb b a) (eqb a b && true) (lt→ltb b a l)
    ]

-- from a test that passed, and back to it
pub of_le : (x y : Float) → le x y ≡ true → Le x y
of_le x y h = T→Le x y (holds h)

pub le_of : (x y : Float) → Le x y → le x y ≡ true
le_of x y h = is_true (le x y) (Le→T x y h)

-- ---- the order is one
pub Le-trans : (x y z : Float) → Le x y → Le y z → Le x z
Le-trans nan y z h k = h
Le-trans (inf s) nan z h k = absurd h
Le-trans (inf s) (inf t) nan h k = k
Le-trans (inf true) (inf t) (inf u) h k = tt
Le-trans (inf false) (inf true) (inf u) h k = absurd h
Le-trans (inf false) (inf false) (inf u) h k = k
Le-trans (inf true) (inf t) (fin u n d) h k = tt
Le-trans (inf false) (inf true) (fin u n d) h k = absurd h
Le-trans (inf false) (inf false) (fin u n d) h k = k
Le-trans (inf s) (fin t n d) nan h k = k
Le-trans (inf true) (fin t n d) (inf u) h k = tt
Le-trans (inf false) (fin t n d) (inf u) h k = absurd h
Le-trans (inf s) (fin t n d) (fin u o c) h k = h
Le-trans (fin s m e) nan z h k = absurd h
Le-trans (fin s m e) (inf t) nan h k = k
Le-trans (fin s m e) (inf true) (inf u) h k = absurd h
Le-trans (fin s m e) (inf false) (inf u) h k = k
Le-trans (fin s m e) (inf true) (fin u o c) h k = absurd h
Le-trans (fin s m e) (inf false) (fin u o c) h k = absurd k
Le-trans (fin s m e) (fin t n d) nan h k = k
Le-trans (fin s m e) (fin t n d) (inf u) h k = k
Le-trans (fin s m e) (fin t n d) (fin u o c) h k = ≼_trans (val (fin s m e)) (val (fin t n d)) (val (fin u o c)) (down_pos d) h k

pub Le-refl : (x : Float) → T (not (is_nan x)) → Le x x
unfolding is_nan
Le-refl nan n = n
Le-refl (inf true) n = tt
Le-refl (inf false) n = tt
Le-refl (fin s m e) n = omega arith

pub Le-total : (x y : Float) → T (not (is_nan x)) → T (not (is_nan y)) → Le x y ⊎ Le y x
unfolding is_nan
Le-total nan y p q = absurd p
Le-total (inf s) nan p q = absurd q
Le-total (inf true) (inf t) p q = inl tt
Le-total (inf false) (inf true) p q = inr tt
Le-total (inf false) (inf false) p q = inr tt
Le-total (inf true) (fin t n d) p q = inl tt
Le-total (inf false) (fin t n d) p q = inr tt
Le-total (fin s m e) nan p q = absurd q
Le-total (fin s m e) (inf true) p q = inr tt
Le-total (fin s m e) (inf false) p q = inl tt
Le-total (fin s m e) (fin t n d) p q = either (val (fin s m e)) (val (fin t n d))

-- equal values, either way round
pub eq→Le : (x y : Float) → T (eq x y) → Le y x
unfolding eq
eq→Le nan y h = absurd h
eq→Le (inf s) nan h = absurd h
eq→Le (inf true) (inf true) h = tt
eq→Le (inf true) (inf false) h = absurd h
eq→Le (inf false) (inf true) h = absurd h
eq→Le (inf false) (inf false) h = tt
eq→Le (inf s) (fin t n d) h = absurd h
eq→Le (fin s m e) nan h = absurd h
eq→Le (fin s m e) (inf t) h = absurd h
eq→Le (fin false m e) (fin false n d) h =
    let a = m * up e * down d in
    let b = n * up d * down e in
    let p = eqb→eq a b (and_l (eqb a b) true h) in
    omega arith
eq→Le (fin false m e) (fin true n d) h = omega arith
eq→Le (fin true m e) (fin false n d) h =
    let a = m * up e * down d in
    let b = n * up d * down e in
    let z = eqb→eq a 0 (and_r (eqb a b) (eqb a 0) h) in
    let p = eqb→eq a b (and_l (eqb a b) (eqb a 0) h) in
    omega arith
eq→Le (fin true m e) (fin true n d) h =
    let a = m * up e * down d in
    let b = n * up d * down e in
    let p = eqb→eq a b (and_l (eqb a b) true h) in
    omega arith

-- what is less is not the other way round
pub lt-clash : (x y : Float) → T (lt x y) → Le y x → ⊥
unfolding lt
lt-clash nan y h k = h
lt-clash (inf s) nan h k = h
lt-clash (inf true) (inf true) h k = h
lt-clash (inf true) (inf false) h k = k
lt-clash (inf false) (inf t) h k = h
lt-clash (inf true) (fin t n d) h k = k
lt-clash (inf false) (fin t n d) h k = h
lt-clash (fin s m e) nan h k = h
lt-clash (fin s m e) (inf true) h k = h
lt-clash (fin s m e) (inf false) h k = k
lt-clash (fin false m e) (fin false n d) h k = let l = ltb→lt (m * up e * down d) (n * up d * down e) h in omega arith
lt-clash (fin false m e) (fin true n d) h k = h
lt-clash (fin true m e) (fin false n d) h k = let l = ltb→lt 0 (m * up e * down d + n * up d * down e) h in omega arith
lt-clash (fin true m e) (fin true n d) h k = let l = ltb→lt (n * up d * down e) (m * up e * down d) h in omega arith

-- what lies between two finite values is finite
pub Le-finite : (x y z : Float) → T (finite x) → T (finite z) → Le x y → Le y z → T (finite y)
Le-finite x (fin t n d) z p q h k = tt
Le-finite x nan z p q h k = absurd k
Le-finite nan (inf t) z p q h k = absurd p
Le-finite (inf s) (inf t) z p q h k = absurd p
Le-finite (fin s m e) (inf true) z p q h k = absurd h
Le-finite (fin s m e) (inf false) nan p q h k = absurd q
Le-finite (fin s m e) (inf false) (inf u) p q h k = absurd q
Le-finite (fin s m e) (inf false) (fin u o c) p q h k = absurd k

-- ---- `neg` turns the order
pub Le-neg : (x y : Float) → Le x y → Le (neg y) (neg x)
unfolding neg
Le-neg nan y h = absurd h
Le-neg (inf s) nan h = absurd h
Le-neg (inf true) (inf true) h = tt
Le-neg (inf true) (inf false) h = tt
Le-neg (inf false) (inf true) h = absurd h
Le-neg (inf false) (inf false) h = tt
Le-neg (inf true) (fin t n d) h = tt
Le-neg (inf false) (fin t n d) h = absurd h
Le-neg (fin s m e) nan h = absurd h
Le-neg (fin s m e) (inf true) h = absurd h
Le-neg (fin s m e) (inf false) h = tt
Le-neg (fin false m e) (fin false n d) h = omega arith
Le-neg (fin false m e) (fin true n d) h = omega arith
Le-neg (fin true m e) (fin false n d) h = omega arith
Le-neg (fin true m e) (fin true n d) h = omega arith

-- ---- a value between two finite ones, by fractions
pub record Within (lo x hi : Float) : Type 0 where
  pub is_finite : T (finite x)
  pub from : val lo ≼ val x
  pub to : val x ≼ val hi

pub within : {lo x hi : Float} → Between lo x hi → T (finite lo) → T (finite hi) → Within lo x hi
within {lo} {x} {hi} b p q =
    let l = of_le lo x b.low in
    let u = of_le x hi b.high in
    let e = Le-finite lo x hi p q l u in
    record { is_finite = e; from = Le→≼ lo x p e l; to = Le→≼ x hi e q u }
