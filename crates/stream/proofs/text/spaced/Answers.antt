use mathlib.Core.Path.{◌∙◌}
use native.Mathlib.Omega.{arith}
use lib.ListN.{length-set}
use Rattle.stream.proofs.Texts.{blank}
use Rattle.stream.proofs.text.spaced.Goals as goal

-- src/text.rt:46:5
pub decimal-requires : goal.decimal-requires
decimal-requires c = simp length-set (omega arith)

-- src/text.rt:41:1
pub shape_of-out : goal.shape_of-out
shape_of-out c = c.decimal.auto.out ∙ simp length-set

-- src/text.rt:41:1
pub returns : goal.returns
returns c = blank _ _ _ _ _ c.requires c.decimal.ensures
