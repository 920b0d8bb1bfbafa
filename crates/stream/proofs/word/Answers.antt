use Rattle.stream.specs.Numbers.{word_at}
use Rattle.stream.proofs.word.Goals as goal

-- src/lib.rt:162:1
pub returns : goal.returns
unfolding word_at
returns c = rw (c.half.ensures.0, c.half-2.ensures.0)
