-- `map::sound::list_good` meets its contract. The part lent is the list. Assumes nothing.
use mathlib.Core.Path.{◌≡◌}
use Prim.Native.Nat.{suc, ◌+◌, ◌-◌}
use native.Mathlib.Omega.{arith}
use lib.ListN.{get_or}
use Rattle.entity_tests.proofs.list_good.Goals as goal

pub returns : goal.returns
returns c =
    let w = c.args.w.now in
    let k = c.args.k in
    let e : k + 1 + get_or w k 0 - (k + 1) ≡ get_or w k 0 = omega arith in
    let f : k + 1 ≡ suc k = omega arith in
    rw (c.all_at_most.ensures, e, f)
