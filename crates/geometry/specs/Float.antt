-- The float operations of the Rust, at 64 bits. `x +ᶠ y` is the library's IEEE sum, rounded once; a constant is given by its bits.
use Rattle.std.specs.Prelude.{◌≡◌, refl, Bool, false, ◌&&◌, cond, pos, Float}
use Rattle.std.specs.Float.{binary64}
use Rattle.std.specs.Float.Ieee.{add, sub, mul, div, neg, lt, le, of_bits, of_int, round}

infixl 65 ◌+ᶠ◌ ◌-ᶠ◌
infixl 70 ◌*ᶠ◌ ◌/ᶠ◌
abbrev pub ◌+ᶠ◌ : Float → Float → Float
x +ᶠ y = add binary64 x y

abbrev pub ◌-ᶠ◌ : Float → Float → Float
x -ᶠ y = sub binary64 x y

abbrev pub ◌*ᶠ◌ : Float → Float → Float
x *ᶠ y = mul binary64 x y

abbrev pub ◌/ᶠ◌ : Float → Float → Float
x /ᶠ y = div binary64 x y

-- 0, 1 and 0.5
abbrev pub zeroᶠ : Float
zeroᶠ = of_bits binary64 0

abbrev pub oneᶠ : Float
oneᶠ = of_bits binary64 0x3FF0000000000000

abbrev pub halfᶠ : Float
halfᶠ = of_bits binary64 0x3FE0000000000000

-- EPSILON of geometry/mod.rs: the double nearest 1e-9 (`epsilon_is` below)
unfoldable pub epsilon : Float
epsilon = of_bits binary64 0x3E112E0BE826D695

-- `f64::clamp` of the Rust: a NaN stays, and so does a zero of either sign at a bound of zero
unfoldable pub clamp : Float → Float → Float → Float
clamp x least most = cond (lt x least) least (cond (lt most x) most x)

-- Document 01: "For t in 0 to 1 and coordinates within ±16,777,216 (2^24) the result stays within ±2^24".
-- 16,777,216
unfoldable pub reach : Float
reach = of_bits binary64 0x4170000000000000

-- finite and within ±16,777,216: a NaN passes no comparison
unfoldable pub coordinate : Float → Bool
coordinate x = le (neg reach) x && le x reach

-- from 0 to 1
unfoldable pub fraction : Float → Bool
fraction t = le zeroᶠ t && le t oneᶠ

-- a + (b − a) × t, three roundings: one coordinate of `lerp`
unfoldable pub mix : Float → Float → Float → Float
mix a b t = a +ᶠ (b -ᶠ a) *ᶠ t

-- ---- the constants' values

epsilon_is : epsilon ≡ round binary64 false 1 1000000000
unfolding epsilon of_bits round
epsilon_is = refl

reach_is : reach ≡ of_int binary64 (pos 16777216)
unfolding reach of_bits of_int
reach_is = refl
