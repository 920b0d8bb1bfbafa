-- The laws of order of floats: `le` is an order but at a NaN, and the operations keep it. Those of the operations are over finite values.
-- A test is a fact of the form `le x y ≡ true`, as a branch gives it. Assumes nothing.
use mathlib.Core.Path.{◌≡◌}
use mathlib.Core.Logic.{◌⊎◌, inl, inr}
use native.Mathlib.Nat.{mul-pos}
use native.Mathlib.Omega.{arith}
use mathlib.Core.Bool.{Bool, true, false, not, ◌||◌}
use lib.Dec.{T, T_not, not_T}
use lib.Ieee.{Float, nan, inf, fin, Format, of_bits, neg, add, sub, mul, lt, eq, le, fits, is_nan}
use lib.Ieee.Bits.{is_true, is_false}
use lib.Ieee.Scale.{finite}
use Rattle.geometry.specs.Bounds.{nought, Between}
use Rattle.geometry.proofs.Frac.{Frac, whole, ◌⊗◌, ◌≼◌, ≼_trans, ⊕-mono, ⊕-up, ⊗-mono-l, ⊗-mono-r, ⊗-pos, square-pos}
use Rattle.geometry.proofs.Compare.{holds, fails, val, den_pos, Le, T→Le, of_le, le_of, left, Le→≼}
use Rattle.geometry.proofs.Compare.{Le-trans, Le-refl, Le-total, eq→Le, lt-clash, Le-finite, Le-neg}
use Rattle.geometry.proofs.Rounding.{Rounds, rounds-mono, at_most, at_least, add_rounds, sub-rounds, mul-rounds, neg-finite, zero-fits}

-- ---- which values compare
-- what passes a comparison is no NaN, on the left and on the right
pub le_left : (x y : Float) → le x y ≡ true → is_nan x ≡ false
le_left x y h = is_false (is_nan x) (go x y (of_le x y h))
  where
    go : (x y : Float) → Le x y → T (not (is_nan x))
    go nan y h = absurd h
    go (inf s) y h = unfold is_nan in tt
    go (fin s m e) y h = unfold is_nan in tt

pub le_right : (x y : Float) → le x y ≡ true → is_nan y ≡ false
le_right x y h = is_false (is_nan y) (go x y (of_le x y h))
  where
    go : (x y : Float) → Le x y → T (not (is_nan y))
    go x (inf t) h = unfold is_nan in tt
    go x (fin t n d) h = unfold is_nan in tt
    go nan nan h = absurd h
    go (inf s) nan h = absurd h
    go (fin s m e) nan h = absurd h

-- a finite value is no NaN
pub finite_number : (x : Float) → finite x ≡ true → is_nan x ≡ false
finite_number x h = is_false (is_nan x) (go x (holds h))
  where
    go : (x : Float) → T (finite x) → T (not (is_nan x))
    go nan h = absurd h
    go (inf s) h = absurd h
    go (fin s m e) h = unfold is_nan in tt

-- what lies between two finite values is finite
pub finite-between : {lo x hi : Float} → Between lo x hi → finite lo ≡ true → finite hi ≡ true → finite x ≡ true
finite-between {lo} {x} {hi} b p q = is_true (finite x) (Le-finite lo x hi (holds p) (holds q) (of_le lo x b.low) (of_le x hi b.high))

-- ---- the order
-- nothing is asked of the values, which may be infinities: a NaN makes a premise false
pub le_trans : (x y z : Float) → le x y ≡ true → le y z ≡ true → le x z ≡ true
le_trans x y z h k = le_of x z (Le-trans x y z (of_le x y h) (of_le y z k))

-- every value but a NaN is at most itself, and of two such values one is at most the other
pub le_refl : (x : Float) → is_nan x ≡ false → le x x ≡ true
le_refl x n = le_of x x (Le-refl x (fails n))

pub le_total : (x y : Float) → is_nan x ≡ false → is_nan y ≡ false → (le x y ≡ true) ⊎ (le y x ≡ true)
le_total x y p q = elim (Le-total x y (fails p) (fails q)) [ inl h ↦ inl (le_of x y h) | inr h ↦ inr (le_of y x h) ]

-- what is less is no larger
pub lt-le : (x y : Float) → lt x y ≡ true → le x y ≡ true
unfolding le
lt-le x y h = is_true (le x y) (left (lt x y) (eq x y) (holds h))

-- what does not hold one way round holds the other
pub not-lt : (x y : Float) → is_nan x ≡ false → is_nan y ≡ false → lt x y ≡ false → le y x ≡ true
unfolding le
not-lt x y p q n =
    elim (le_total x y p q) [ inl h ↦ le_of y x (eq→Le x y (rest (lt x y) (eq x y) (fails n) (holds h))) | inr h ↦ h ]
  where
    rest : (a b : Bool) → T (not a) → T (a || b) → T b
    rest true b n t = absurd n
    rest false b n t = t

pub not-le : (x y : Float) → is_nan x ≡ false → is_nan y ≡ false → le x y ≡ false → lt y x ≡ true
unfolding le
not-le x y p q n =
    elim (le_total x y p q) [
      | inl h ↦ absurd (T_not (le x y) (fails n) (holds h))
      | inr h ↦ is_true (lt y x) (go (lt y x) (eq y x) (eq→Le y x) (holds h))
    ]
  where
    go : (a b : Bool) → (T b → Le x y) → T (a || b) → T a
    go true b e t = tt
    go false b e t = T_not (le x y) (fails n) (holds (le_of x y (e t)))

-- what holds one way round does not hold the other
pub lt_not_le : (x y : Float) → lt x y ≡ true → le y x ≡ false
lt_not_le x y h = is_false (le y x) (not_T (le y x) (λ t. lt-clash x y (holds h) (T→Le y x t)))

pub le_not_lt : (x y : Float) → le x y ≡ true → lt y x ≡ false
le_not_lt x y h = is_false (lt y x) (not_T (lt y x) (λ t. lt-clash y x t (of_le x y h)))

-- a chain with one strict step is strict
pub lt-le-trans : (x y z : Float) → lt x y ≡ true → le y z ≡ true → lt x z ≡ true
lt-le-trans x y z h k =
    not-le z x (le_right y z k) (le_left x y (lt-le x y h))
    (is_false (le z x) (not_T (le z x) (λ t. lt-clash x y (holds h) (Le-trans y z x (of_le y z k) (T→Le z x t)))))

pub le_lt_trans : (x y z : Float) → le x y ≡ true → lt y z ≡ true → lt x z ≡ true
le_lt_trans x y z h k =
    not-le z x (le_right y z (lt-le y z k)) (le_left x y h)
    (is_false (le z x) (not_T (le z x) (λ t. lt-clash y z (holds k) (Le-trans z x y (T→Le z x t) (of_le x y h)))))

-- ---- `neg` turns the order
pub neg-anti : (x y : Float) → le x y ≡ true → le (neg y) (neg x) ≡ true
neg-anti x y h = le_of (neg y) (neg x) (Le-neg x y (of_le x y h))

-- ---- sums, differences and products, in either format
to-≼ : (x y : Float) → finite x ≡ true → finite y ≡ true → le x y ≡ true → val x ≼ val y
to-≼ x y p q h = Le→≼ x y (holds p) (holds q) (of_le x y h)

from_zero : (x : Float) → finite x ≡ true → le nought x ≡ true → whole 0 ≼ val x
unfolding of_bits
from_zero x p h = Le→≼ nought x tt (holds p) (of_le nought x h)

module _ (f : Format) where
  -- what is at least zero rounds to at least zero
  zero-least : {w : Float} {q : Frac} → Rounds f w q → whole 0 ≼ q → le nought w ≡ true
  unfolding of_bits
  zero-least {w} r h = le_of nought w (at_least nought r (zero-fits f) tt h)

  -- a sum grows with each term
  pub add-mono : (x x' y y' : Float) → finite x ≡ true → finite x' ≡ true → finite y ≡ true → finite y' ≡ true
      → le x x' ≡ true → le y y' ≡ true → le (add f x y) (add f x' y') ≡ true
  add-mono x x' y y' p p' q q' h k =
      le_of (add f x y) (add f x' y')
      (rounds-mono (add_rounds f x y (holds p) (holds q)) (add_rounds f x' y' (holds p') (holds q'))
      (⊕-mono (val x) (val x') (val y) (val y') (to-≼ x x' p p' h) (to-≼ y y' q q' k)))

  -- a sum lies between the sums of the ends
  pub add-between : {lo x hi lo' y hi' : Float} → Between lo x hi → Between lo' y hi'
      → finite lo ≡ true → finite hi ≡ true → finite lo' ≡ true → finite hi' ≡ true → Between (add f lo lo') (add f x y) (add f hi hi')
  add-between {lo} {x} {hi} {lo'} {y} {hi'} h k a b c d =
      let p = finite-between h a b in
      let q = finite-between k c d in
      record { low = add-mono lo x lo' y a p c q h.low k.low; high = add-mono x hi y hi' p b q d h.high k.high }

  -- a sum with what is not negative is no smaller
  pub add-up : (x y : Float) → fits f x ≡ true → finite x ≡ true → finite y ≡ true → le nought y ≡ true → le x (add f x y) ≡ true
  add-up x y t p q h =
      le_of x (add f x y) (at_least x (add_rounds f x y (holds p) (holds q)) (holds t) (holds p) (⊕-up (val x) (val y) (from_zero y q h)))

  -- a difference grows with its left side, and shrinks as its right side grows
  pub sub-mono : (x x' y y' : Float) → finite x ≡ true → finite x' ≡ true → finite y ≡ true → finite y' ≡ true
      → le x x' ≡ true → le y' y ≡ true → le (sub f x y) (sub f x' y') ≡ true
  unfolding sub
  sub-mono x x' y y' p p' q q' h k = add-mono x x' (neg y) (neg y') p p' (turned y q) (turned y' q') h (neg-anti y' y k)
    where
      turned : (z : Float) → finite z ≡ true → finite (neg z) ≡ true
      turned z e = is_true (finite (neg z)) (neg-finite z (holds e))

  -- a difference has the sign of the order
  pub sub-pos : (x y : Float) → finite x ≡ true → finite y ≡ true → le y x ≡ true → le nought (sub f x y) ≡ true
  sub-pos x y p q h = let k = to-≼ y x q p h in zero-least (sub-rounds f x y (holds p) (holds q)) (omega arith)

  pub sub-neg : (x y : Float) → finite x ≡ true → finite y ≡ true → le x y ≡ true → le (sub f x y) nought ≡ true
  unfolding of_bits
  sub-neg x y p q h =
      let k = to-≼ x y p q h in
      le_of (sub f x y) nought (at_most nought (sub-rounds f x y (holds p) (holds q)) (zero-fits f) tt (omega arith))

  -- a product of two values that are not negative is not negative, nor is a square
  pub mul-up : (x y : Float) → finite x ≡ true → finite y ≡ true → le nought x ≡ true → le nought y ≡ true → le nought (mul f x y) ≡ true
  mul-up x y p q h k = zero-least (mul-rounds f x y (holds p) (holds q)) (⊗-pos (val x) (val y) (from_zero x p h) (from_zero y q k))

  pub square-up : (x : Float) → finite x ≡ true → le nought (mul f x x) ≡ true
  square-up x p = zero-least (mul-rounds f x x (holds p) (holds p)) (square-pos (val x))

  -- a product of values that are not negative grows with each factor
  pub mul_mono : (x x' y y' : Float) → finite x ≡ true → finite x' ≡ true → finite y ≡ true → finite y' ≡ true
      → le nought x ≡ true → le x x' ≡ true → le nought y ≡ true → le y y' ≡ true → le (mul f x y) (mul f x' y') ≡ true
  mul_mono x x' y y' p p' q q' a h b k =
      le_of (mul f x y) (mul f x' y')
      (rounds-mono (mul-rounds f x y (holds p) (holds q)) (mul-rounds f x' y' (holds p') (holds q'))
      (≼_trans (val x ⊗ val y) (val x' ⊗ val y) (val x' ⊗ val y') (mul-pos (den_pos x') (den_pos y))
      (⊗-mono-l (val x) (val x') (val y) (to-≼ x x' p p' h) (from_zero y q b))
      (⊗-mono-r (val x') (val y) (val y') (from_zero x' p' (le_trans nought x x' a h)) (to-≼ y y' q q' k))))
