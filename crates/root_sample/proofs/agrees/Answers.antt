-- `root_sample::agrees` meets its contract: doubles of the same bits are the same. Assumes nothing.
use mathlib.Core.Path.{◌≡◌, sym, ap, ◌∙◌, subst}
use mathlib.Core.Bool.{true}
use lib.Dec.{T}
use lib.Ieee.{Float, binary64, fits, of_bits, to_bits}
use lib.Ieee.Bits.{of_bits-to_bits}
use borrow.Author.Tests.{eqb-true}
use Rattle.root_sample.proofs.agrees.Goals as goal

same_bits : (x y : Float) → fits binary64 x ≡ true → fits binary64 y ≡ true → to_bits binary64 x ≡ to_bits binary64 y → x ≡ y
same_bits x y h k e =
    let own = λ (z : Float) (l : fits binary64 z ≡ true). of_bits-to_bits binary64 z (subst T (sym l) tt) in
    sym (own x h) ∙ (ap (of_bits binary64) e ∙ own y k)

pub returns : goal.returns
returns c h =
    let bits = eqb-true c.pattern.result c.pattern-2.result h in
    let same = same_bits c.sqrt-found.result c.double-2.result c.sqrt-found.type_inv c.double-2.type_inv (cc) in
    cc
