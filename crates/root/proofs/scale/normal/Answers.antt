-- `root::scale::normal` meets its contract. Assumes nothing.
use Rattle.std.proofs.Common.{ℕ, ◌+◌, ◌/◌, ◌%◌, ◌^◌, subst, arith, rules}
use Rattle.root.specs.Steps.{Scaled}
use Rattle.root.proofs.Places.{magnitude-high, joined}
use Rattle.root.proofs.scale.normal.Goals as goal

pub returns : goal.returns
returns c =
    rw (magnitude-high c.args.bits (omega arith))
    (subst (λ (n : ℕ). Scaled n c.halved.result.digits c.halved.result.odd c.halved.result.half)
    (joined (c.args.bits % 2 ^ 52 + 2 ^ 52) 1074 (c.args.bits / 2 ^ 52) (omega arith)) c.halved.ensures)
