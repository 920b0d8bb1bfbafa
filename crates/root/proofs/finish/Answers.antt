-- `root::finish` meets its contract. Assumes nothing.
use Rattle.std.proofs.Common.{◌^◌, ◌<◌, arith}
use Rattle.root.specs.Begun.{Begins}
use Rattle.root.proofs.Rounding.{rounded-most}
use Rattle.root.proofs.Units.{no-nan-bits}
use Rattle.root.proofs.finish.Goals as goal
use Rattle.root.proofs.finish.Lts as lts
use Rattle.root.proofs.finish.Reads as reads
use Rattle.root.proofs.finish.Tie as tie

abbrev AtElseBLtHIDDEN : Type 0
AtElseBLtHIDDEN = lts.Else1 tie.the-claims reads.Pre reads.Post

abbrev AtAfterNearest : Type 0
AtAfterNearest = lts.After-nearest tie.the-claims reads.Pre reads.Post

-- what the root was begun with, and the whole number that `nearest` finds
begun : (c : AtElseBLtHIDDEN) → Begins c.requires.0 c.args.b.a c.args.b.top
begun c = c.requires.1.begun (omega (arith, c.if-b-lt-HIDDEN.false))

below : (c : AtAfterNearest) → c.nearest.result < 2 ^ 53
below c = rounded-most _ _ (begun c.before).least (begun c.before).most c.nearest.ensures

pub returns-then-b-lt-HIDDEN : goal.returns-then-b-lt-HIDDEN
returns-then-b-lt-HIDDEN c = λ s u. u.known (omega arith)

pub nearest-requires : goal.nearest-requires
nearest-requires c = ((begun c).least, (begun c).most)

pub overflow_add-result : goal.overflow_add-result
overflow_add-result c = omega (arith, below c.before, (begun c.before.before).field)

pub float_from_bits-result : goal.float_from_bits-result
float_from_bits-result c = no-nan-bits _ (omega (arith, below c.before, (begun c.before.before).field))

pub returns : goal.returns
returns c = λ s u. (u.begun (omega (arith, c.if-b-lt-HIDDEN.false))).ends c.nearest.result c.nearest.ensures
