-- `root::normal` meets its contract: the digits that `normal` finds and the root that `nearest` finds are those of `root`. Assumes nothing.
use Rattle.std.proofs.Common.{◌≡◌, ◌+◌, ◌*◌, ◌^◌, ◌<◌, true, T, sym, subst, arith, rules}
use lib.Ieee.{binary64, fits}
use lib.Ieee.Positive.{positive}
use Rattle.root.specs.Root.{root}
use Rattle.root.specs.Begun.{Begins}
use Rattle.root.proofs.Ordinary.{begins, normal-positive, normal-bits}
use Rattle.root.proofs.Rounding.{rounded-most}
use Rattle.root.proofs.Units.{positive-no-nan, no-nan-bits, bits_below}
use Rattle.root.proofs.normal.Goals as goal
use Rattle.root.proofs.normal.Lts as lts
use Rattle.root.proofs.normal.Reads as reads
use Rattle.root.proofs.normal.Tie as tie

abbrev AtStart : Type 0
AtStart = lts.Start tie.the-claims reads.Pre reads.Post

abbrev AtAfterNormalS : Type 0
AtAfterNormalS = lts.After-normal tie.the-claims reads.Pre reads.Post

abbrev AtAfterNearestQ : Type 0
AtAfterNearestQ = lts.After-nearest tie.the-claims reads.Pre reads.Post

-- what owning an `f64` tells: the format holds it
held : (c : AtStart) → T (fits binary64 c.args.x)
held c = subst T (sym c.well_formed.0.1) tt

above : (c : AtStart) → positive c.args.x ≡ true
above c = normal-positive c.args.x (held c) c.requires.0 c.requires.1

begun : (c : AtAfterNormalS) → Begins (root c.args.x) (c.normal-s.result.digits * (1 + c.normal-s.result.odd)) (c.normal-s.result.half * 2 ^ 52)
begun c = begins c.args.x (held c.before) (above c.before) c.normal-s.ensures

settled : (c : AtAfterNearestQ) → c.nearest-q.result < 2 ^ 53
settled c = rounded-most _ _ (begun c.before.before.before.before).least (begun c.before.before.before.before).most c.nearest-q.ensures

pub float_to_bits-x : goal.float_to_bits-x
float_to_bits-x c = positive-no-nan c.args.x (above c)

pub normal-s-requires : goal.normal-s-requires
normal-s-requires c = (normal-bits c.args.x (held c) c.requires.0 c.requires.1, bits_below c.args.x (held c) (above c))

pub overflow_mul-s : goal.overflow_mul-s
overflow_mul-s c = omega (arith, (begun c.before.before.before).most)

pub nearest-q-requires : goal.nearest-q-requires
nearest-q-requires c = ((begun c.before.before.before).least, (begun c.before.before.before).most)

pub overflow_add-result : goal.overflow_add-result
overflow_add-result c = omega (arith, settled c.before, (begun c.before.before.before.before.before).field)

pub float_from_bits-result : goal.float_from_bits-result
float_from_bits-result c = no-nan-bits _ (omega (arith, settled c.before, (begun c.before.before.before.before.before).field))

pub returns : goal.returns
returns c = (begun c.before.before.before.before.before).ends c.nearest-q.result c.nearest-q.ensures
