use mathlib.Core.Path.{refl}
use Rattle.stream.specs.Digest.{mix}
use Rattle.stream.proofs.digest.mix.Goals as goal

-- src/digest.rt:9:1
pub returns : goal.returns
unfolding mix
returns c = refl
