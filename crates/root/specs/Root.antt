-- The square root of a double, over whole numbers (IEEE 754-2019, 5.4.1: the exact root, rounded once).
-- Document 01: "A square root is the IEEE 754-2019 one: the double nearest the exact root, ties to even, stated over whole numbers."
use Rattle.std.specs.Prelude.{ℕ, zero, suc, ◌+◌, ◌-◌, ◌*◌, ◌/◌, ◌^◌, true, false, cond, nat_le, Float}
use Prim.Native.Nat.{compare}
use Rattle.std.specs.Float.{nan, inf, fin, binary64}
use Rattle.std.specs.Float.Ieee.{prec, low, up, down, size, nearest, units}

-- The largest whole number whose square is at most n, a binary digit at a time, for an n of at most 2 * d binary digits.
unfoldable pub whole_root : ℕ → ℕ → ℕ
whole_root zero n = 0
whole_root (suc d) n = let r = 2 * whole_root d (n / 4) in cond (nat_le ((r + 1) * (r + 1)) n) (r + 1) r

-- The double nearest the root of n, counted in units of the smallest positive double, 2 ^ -1074. Of the root's whole part w the format
-- keeps the 53 leading digits, q, and drops k; n lies below, at or above the square of the midpoint of q and q + 1, in steps of 2 ^ k.
unfoldable pub nearest_root : ℕ → Float
unfolding whole_root size units
nearest_root n =
    let w = whole_root (suc (size n / 2)) n in
    let k = size w - prec binary64 in
    let q = w / 2 ^ k in
    let midpoint = (2 * q + 1) * 2 ^ k in
    units binary64 false (nearest q (compare (4 * n) (midpoint * midpoint))) k

-- A double's size in units of 2 ^ -1074 times 2 ^ 1074, so that its root is the number whose root in those units is asked.
-- A double is a multiple of that unit: the division is exact.
abbrev pub square_units : ℕ → ℕ → ℕ
square_units num den = num * 2 ^ (2 * low binary64) / den

-- The square root. Zeros keep their sign, infinity stays, NaN and negative numbers give NaN.
unfoldable pub root : Float → Float
unfolding nearest_root
root nan = nan
root (inf true) = nan
root (inf false) = inf false
root (fin s zero e) = fin s zero e
root (fin true (suc m) e) = nan
root (fin false (suc m) e) = nearest_root (square_units (suc m * up e) (down e))
