-- The guess at a root, operation by operation. Nothing that is said of the root rests on this page: `nearest` settles any guess.
use Rattle.std.specs.Prelude.{ℕ, ◌+◌, ◌*◌, ◌^◌, cond, ◌==◌, from_bits, Float}
use Rattle.std.specs.Float.{binary64}
use Rattle.std.specs.Float.Ieee.{add, sub, mul}

-- two factors of a polynomial of degree 4
unfoldable pub seed_of : Float → Float
seed_of u =
    mul binary64 (add binary64 (mul binary64 u (sub binary64 u (from_bits binary64 0x3FF5F04CABE4A6B1))) (from_bits binary64 0x400C6400873CDF54))
    (add binary64 (mul binary64 u (sub binary64 u (from_bits binary64 0x401930473D90B619))) (from_bits binary64 0x4026FAA76B619F6E))

unfoldable pub factor_of : ℕ → Float
factor_of odd = cond (odd == 0) (from_bits binary64 0x3FA063E27F53DE7E) (from_bits binary64 0x3F972DE08B685BFD)

-- one step of Newton's and one correction
unfoldable pub stepped : Float → Float → Float
stepped v s =
    let w = mul binary64 v s in
    let k = sub binary64 (from_bits binary64 0x3FF30C7EFCCE2BAB) (mul binary64 w s) in
    let g = mul binary64 (add binary64 w w) k in
    add binary64 g (mul binary64 (sub binary64 v (mul binary64 g g)) (mul binary64 s k))

-- at √(m * 2 ^ odd / 2 ^ 52), for m of 53 digits
unfoldable pub guess_of : ℕ → ℕ → Float
guess_of m odd = stepped (from_bits binary64 ((1022 + odd) * 2 ^ 52 + m)) (mul binary64 (seed_of (from_bits binary64 (1022 * 2 ^ 52 + m))) (factor_of odd))
