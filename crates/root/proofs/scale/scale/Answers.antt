-- `root::scale::scale` meets its contract. Assumes nothing.
use Rattle.std.proofs.Common.{◌≡◌, ◌%◌, ◌^◌, arith, rules}
use Rattle.root.proofs.Places.{magnitude-low}
use Rattle.root.proofs.scale.scale.Goals as goal

pub returns-then-bits-lt-HIDDEN : goal.returns-then-bits-lt-HIDDEN
returns-then-bits-lt-HIDDEN c =
    let b = c.args.bits in
    let m : b % 2 ^ 52 ≡ b = omega arith in
    rw (magnitude-low b (omega arith), m) c.subnormal.ensures
