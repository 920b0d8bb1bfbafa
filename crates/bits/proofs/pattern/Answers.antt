-- `bits::pattern` meets its contract: what does not equal itself is the NaN. Assumes nothing.
use mathlib.Core.Path.{◌≡◌, refl, ap, ◌∙◌}
use Prim.Native.Nat.{ℕ}
use lib.Ieee.{nan, binary64, to_bits}
use Rattle.bits.proofs.Nan.{no_nan, own-nan}
use Rattle.bits.proofs.pattern.Goals as goal

of_nan : ◌≡◌ {A = ℕ} 0x7FF8000000000000 (to_bits binary64 nan)
unfolding to_bits
of_nan = refl

pub float_to_bits-result : goal.float_to_bits-result
float_to_bits-result c = no_nan _ c.if-x.true

pub returns : goal.returns
returns c = of_nan ∙ ap (to_bits binary64) (own-nan _ c.if-x.false)
