-- `root::begin` meets its contract: the digits that `normal` finds begin the root. Assumes nothing.
use Rattle.std.proofs.Common.{◌≡◌, ◌+◌, ◌*◌, ◌^◌, true, T, sym, subst, arith, rules}
use lib.Ieee.{Float, binary64, fits}
use lib.Ieee.Positive.{positive}
use Rattle.root.specs.Root.{root}
use Rattle.root.specs.Begun.{Begins, Unfinished}
use Rattle.root.proofs.Ordinary.{begins, normal-positive, normal-bits}
use Rattle.root.proofs.Units.{positive-no-nan, bits_below}
use Rattle.root.proofs.begin.Goals as goal
use Rattle.root.proofs.begin.Lts as lts
use Rattle.root.proofs.begin.Reads as reads
use Rattle.root.proofs.begin.Tie as tie

abbrev AtThenX2 : Type 0
AtThenX2 = lts.Then2 tie.the-claims reads.Pre reads.Post

abbrev AtAfterNormalS : Type 0
AtAfterNormalS = lts.After-normal tie.the-claims reads.Pre reads.Post

-- what owning an `f64` tells: the format holds it
held : (c : AtThenX2) → T (fits binary64 c.args.x)
held c = subst T (sym c.well_formed.0.1) tt

above : (c : AtThenX2) → positive c.args.x ≡ true
above c = normal-positive c.args.x (held c) c.if-x.true c.if-x-2.true

start : (c : AtAfterNormalS) → Begins (root c.args.x) (c.normal-s.result.digits * (1 + c.normal-s.result.odd)) (c.normal-s.result.half * 2 ^ 52)
start c = begins c.args.x (held c.before) (above c.before) c.normal-s.ensures

pub float_to_bits-x : goal.float_to_bits-x
float_to_bits-x c = positive-no-nan c.args.x (above c)

pub normal-s-requires : goal.normal-s-requires
normal-s-requires c = (normal-bits c.args.x (held c) c.if-x.true c.if-x-2.true, bits_below c.args.x (held c) (above c))

pub overflow_mul-result : goal.overflow_mul-result
overflow_mul-result c = omega (arith, (start c.before.before.before).most)

pub returns-then-x-2 : goal.returns-then-x-2
returns-then-x-2 c = record { known = λ h. absurd (omega (arith, (start c.before.before.before.before).least)); begun = λ h. start c.before.before.before.before }

pub returns : goal.returns
returns c = subst (λ (s : Float). Unfinished s c.known.result.a c.known.result.top c.known.result.guess) c.rare.ensures c.known.ensures
