-- `geometry::clamp` meets its contract. Assumes nothing.
use Rattle.geometry.specs.Float.{clamp}
use Rattle.geometry.proofs.clamp.Goals as goal

pub returns-then-x-least : goal.returns-then-x-least
unfolding clamp
returns-then-x-least c = rw c.if-x-least.true

pub returns-then-most-x : goal.returns-then-most-x
unfolding clamp
returns-then-most-x c = rw (c.if-x-least.false, c.if-most-x.true)

pub returns : goal.returns
unfolding clamp
returns c = rw (c.if-x-least.false, c.if-most-x.false)
