-- What is proved of `root` itself, so that its definition need not be taken on trust: each `Root..` below is a theorem, `root-..` of
-- proofs/Nearest.antt (`root-zero` of proofs/Signs.antt). `T (fits binary64 x)` says that x is a double; `finite` and `positive` (finite and above zero) are the library's.
use Rattle.std.specs.Prelude.{◌≡◌, ℕ, ◌+◌, ◌*◌, ◌/◌, ◌^◌, ◌<◌, true, T, from_bits, Float}
use Rattle.std.specs.Float.{nan, inf, fin, binary64}
use Rattle.std.specs.Float.Ieee.{low, up, down, fits, le, eq}
use Rattle.std.specs.Float.Ieee.Scale.{finite}
use Rattle.std.specs.Float.Ieee.Positive.{positive}
use Rattle.root.specs.Root.{root}

-- The size of a finite double in units of 2 ^ -1074, the smallest positive double; the sign is dropped. The division is exact.
unfoldable pub units_of : Float → ℕ
units_of nan = 0
units_of (inf s) = 0
units_of (fin s m e) = m * up e * 2 ^ low binary64 / down e

-- √n lies nearer to r than to s, and at no tie: it is on r's side of the midpoint (r + s) / 2.
pub record Nearer (n r s : ℕ) : Type 0 where
  pub below : r < s → 4 * n < (r + s) * (r + s)
  pub above : s < r → (r + s) * (r + s) < 4 * n

-- The double r is nearer to the exact root of x than any double of another size: x is units_of x * 2 ^ -1074, so that in units of
-- 2 ^ -1074 its root is √(units_of x * 2 ^ 1074).
abbrev pub Nearest : Float → Float → Type 0
Nearest x r = (y : Float) → T (fits binary64 y) → finite y ≡ true → Nearer (units_of x * 2 ^ 1074) (units_of r) (units_of y)

-- The root of a double that is finite and above zero is finite and above zero, and the nearest double to the exact root.
abbrev pub RootNearest : Type 0
RootNearest = (x : Float) → T (fits binary64 x) → positive x ≡ true → (positive (root x) ≡ true) × Nearest x (root x)

-- The root of a double is a double.
abbrev pub RootFits : Type 0
RootFits = (x : Float) → T (fits binary64 x) → T (fits binary64 (root x))

-- From zero on the root is finite, and not below zero.
abbrev pub RootFinite : Type 0
RootFinite = (x : Float) → T (fits binary64 x) → finite x ≡ true → le (from_bits binary64 0) x ≡ true → (finite (root x) ≡ true) × (le (from_bits binary64 0) (root x) ≡ true)

-- Both zeros are their own roots, and keep their sign.
abbrev pub RootZero : Type 0
RootZero = (x : Float) → eq x (from_bits binary64 0) ≡ true → root x ≡ x

-- A larger double has no smaller root.
abbrev pub RootMono : Type 0
RootMono = (x y : Float) → T (fits binary64 x) → T (fits binary64 y) → le (from_bits binary64 0) x ≡ true → le x y ≡ true → finite y ≡ true → le (root x) (root y) ≡ true
