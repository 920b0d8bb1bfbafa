-- How large what is computed from coordinates becomes: their difference, its square, and the sum of two and of three such squares.
-- Assumes nothing.
use mathlib.Core.Path.{◌≡◌, refl}
use mathlib.Core.Bool.{true, false}
use lib.IntN.{pos}
use lib.Ieee.{Float, fin, binary64, of_bits, neg, add, sub, mul, fits, is_nan}
use lib.Ieee.Scale.{finite}
use Rattle.geometry.specs.Float.{reach, coordinate}
use Rattle.geometry.specs.Bounds.{nought, apart, square, plane, space, Between}
use Rattle.geometry.proofs.Frac.{square_le}
use Rattle.geometry.proofs.Compare.{val, le_of, within}
use Rattle.geometry.proofs.Rounding.{at_most, mul-rounds}
use Rattle.geometry.proofs.Order.{finite-between, finite_number, add-between, sub-mono, square-up}
use Rattle.geometry.proofs.Mix.{coordinate-between}

-- ---- the bounds are these numbers, and finite
pub apart-is : apart ≡ fin false 1 (pos 25)
unfolding of_bits
apart-is = refl

pub square-is : square ≡ fin false 1 (pos 50)
unfolding of_bits
square-is = refl

pub plane-is : plane ≡ fin false 1 (pos 51)
unfolding of_bits
plane-is = refl

pub space-is : space ≡ fin false 3 (pos 50)
unfolding of_bits
space-is = refl

-- ---- a coordinate is finite, and so no NaN
pub coordinate-finite : (x : Float) → coordinate x ≡ true → finite x ≡ true
unfolding reach neg of_bits
coordinate-finite x h = finite-between (coordinate-between x h) refl refl

pub coordinate-number : (x : Float) → coordinate x ≡ true → is_nan x ≡ false
coordinate-number x h = finite_number x (coordinate-finite x h)

-- ---- the difference of two coordinates
pub sub-reach : (a b : Float) → coordinate a ≡ true → coordinate b ≡ true → Between (neg apart) (sub binary64 b a) apart
unfolding reach neg sub of_bits
sub-reach a b ha hb =
    let p = coordinate-finite a ha in
    let q = coordinate-finite b hb in
    let x = coordinate-between a ha in
    let y = coordinate-between b hb in
    record {
      low = sub-mono binary64 (neg reach) b reach a refl q refl p y.low x.high;
      high = sub-mono binary64 b reach a (neg reach) q refl p refl y.high x.low;
    }

pub difference-finite : {d : Float} → Between (neg apart) d apart → finite d ≡ true
unfolding neg of_bits
difference-finite b = finite-between b refl refl

-- ---- its square
pub square-reach : {d : Float} → Between (neg apart) d apart → Between nought (mul binary64 d d) square
unfolding neg of_bits fits
square-reach {d} b =
    let w = within b tt tt in
    record {
      low = square-up binary64 d (difference-finite b);
      high = le_of (mul binary64 d d) square
          (at_most square (mul-rounds binary64 d d w.is_finite w.is_finite) tt tt (square_le (val d) (val apart) w.from w.to));
    }

-- ---- the sum of two squares, and of three
pub plane-reach : {dx dy : Float} → Between (neg apart) dx apart → Between (neg apart) dy apart
    → Between nought (add binary64 (mul binary64 dx dx) (mul binary64 dy dy)) plane
unfolding add of_bits
plane-reach x y = add-between binary64 (square-reach x) (square-reach y) refl refl refl refl

pub space-reach : {dx dy dz : Float} → Between (neg apart) dx apart → Between (neg apart) dy apart → Between (neg apart) dz apart
    → Between nought (add binary64 (add binary64 (mul binary64 dx dx) (mul binary64 dy dy)) (mul binary64 dz dz)) space
unfolding add of_bits
space-reach x y z = add-between binary64 (plane-reach x y) (square-reach z) refl refl refl refl
