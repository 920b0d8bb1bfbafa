-- Named bounds of what is computed from coordinates, and the fact that a value lies between two others. Assumes nothing.
use Rattle.std.specs.Prelude.{◌≡◌, true, Float}
use Rattle.std.specs.Float.{binary64}
use Rattle.std.specs.Float.Ieee.{of_bits, le}

-- 0
abbrev pub nought : Float
nought = of_bits binary64 0

-- 2 ^ 25: two coordinates differ by at most so much
abbrev pub apart : Float
apart = of_bits binary64 0x4180000000000000

-- 2 ^ 50, 2 ^ 51 and 3 * 2 ^ 50: the square of such a difference, and the sum of two and of three such squares
abbrev pub square : Float
square = of_bits binary64 0x4310000000000000

abbrev pub plane : Float
plane = of_bits binary64 0x4320000000000000

abbrev pub space : Float
space = of_bits binary64 0x4328000000000000

-- the roots of these two sums, rounded: no two points in reach are further apart, in the plane and in space (`flattest-is` and
-- `farthest-is` of proofs/Laws.antt)
abbrev pub flattest : Float
flattest = of_bits binary64 0x4186A09E667F3BCD

abbrev pub farthest : Float
farthest = of_bits binary64 0x418BB67AE8584CAA

-- 2 ^ 26: above both
abbrev pub far : Float
far = of_bits binary64 0x4190000000000000

-- lo ≤ x ≤ hi, so neither of the three is a NaN
pub record Between (lo x hi : Float) : Type 0 where
  pub low : le lo x ≡ true
  pub high : le x hi ≡ true
