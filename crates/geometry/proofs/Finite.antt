-- A float less itself is 0, but for an infinity and a NaN.
use mathlib.Core.Path.{◌≡◌, refl, sym}
use Prim.Native.Nat.{ℕ, ◌*◌, ◌<◌}
use native.Mathlib.Nat.{sub_self, mul-pos, zero-mul}
use native.Mathlib.Omega.{arith}
use mathlib.Core.Bool.{Bool, true, false, not}
use lib.Dec.{ltb}
use lib.Ieee.{Float, nan, inf, fin, binary64, up, down, round, sum, sub, eq, of_bits}
use lib.Ieee.Scale.{finite, round_same}
use lib.Ieee.Fits.{down_pos}
use borrow.Author.Tests.{le-ltb}

zero-over : (c : ℕ) → 0 < c → round binary64 false 0 c ≡ round binary64 false 0 1
zero-over c h = round_same binary64 false 0 c 0 1 h (omega arith) (sym (zero-mul c))

same_size : (s : Bool) (a c : ℕ) → 0 < c → eq (sum binary64 s a (not s) a c) (of_bits binary64 0) ≡ true
unfolding sum of_bits eq
same_size true a c p = let h : ltb a a ≡ false = le-ltb a a (omega arith) in rw (h, sub_self, zero-over) (unfold round in refl)
same_size false a c p = let h : ltb a a ≡ false = le-ltb a a (omega arith) in rw (h, sub_self, zero-over) (unfold round in refl)

pub difference-finite : (x : Float) → eq (sub binary64 x x) (of_bits binary64 0) ≡ finite x
unfolding sub eq
difference-finite nan = refl
difference-finite (inf true) = refl
difference-finite (inf false) = refl
difference-finite (fin s m e) = same_size s (m * up e * down e) (down e * down e) (mul-pos (down_pos e) (down_pos e))
