-- The patterns of a NaN are all the one NaN, which alone does not equal itself. Assumes nothing.
use mathlib.Core.Path.{◌≡◌, refl, sym, ◌∙◌}
use Prim.Native.Nat.{ℕ, ◌*◌}
use mathlib.Core.Bool.{Bool, true, false, not, true≢false}
use lib.Dec.{T}
use lib.Ieee.{Float, nan, inf, fin, up, down, level, is_nan, eq, binary64, of_bits, nan_bits}
use lib.Ieee.Bits.{nan_bits_is}
use borrow.Author.Tests.{eq-eqb}

the_nan : (x : Float) → is_nan x ≡ true → nan ≡ x
unfolding is_nan
the_nan nan h = refl
the_nan (inf s) h = absurd (true≢false (sym h))
the_nan (fin s m e) h = absurd (true≢false (sym h))

pub nan-bits : (b : ℕ) → nan_bits binary64 b ≡ true → nan ≡ of_bits binary64 b
nan-bits b h = the_nan (of_bits binary64 b) (sym (nan_bits_is binary64 b) ∙ h)

pub no_nan : (x : Float) → eq x x ≡ true → T (not (is_nan x))
unfolding eq is_nan
no_nan nan h = absurd (true≢false (sym h))
no_nan (inf s) h = tt
no_nan (fin s m e) h = tt

pub own-nan : (x : Float) → eq x x ≡ false → nan ≡ x
unfolding eq
own-nan nan h = refl
own-nan (inf true) h = absurd (true≢false h)
own-nan (inf false) h = absurd (true≢false h)
own-nan (fin s m e) h = absurd (true≢false (sym (same s (m * up e * down e)) ∙ h))
  where
    same : (s : Bool) (a : ℕ) → level s a s a ≡ true
    same true a = rw (eq-eqb a a refl)
    same false a = rw (eq-eqb a a refl)
