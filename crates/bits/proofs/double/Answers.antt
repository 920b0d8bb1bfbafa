-- `bits::double` meets its contract: it makes a float only of bits that are no NaN's. Assumes nothing.
use mathlib.Core.Path.{sym, ◌∙◌, subst}
use mathlib.Core.Bool.{Bool, not}
use lib.Dec.{T}
use lib.Ieee.{div, of_bits}
use Rattle.bits.proofs.Nan.{nan-bits}
use Rattle.bits.proofs.double.Goals as goal

pub returns-then-is_nan : goal.returns-then-is_nan
unfolding div of_bits
returns-then-is_nan c = nan-bits c.args.bits (sym c.is_nan.ensures ∙ c.if-is_nan.true)

pub float_from_bits-result : goal.float_from_bits-result
float_from_bits-result c = subst (λ (b : Bool). T (not b)) (sym (sym c.is_nan.ensures ∙ c.if-is_nan.false)) tt
