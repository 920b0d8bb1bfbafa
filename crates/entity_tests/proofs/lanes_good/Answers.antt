-- `entity_tests::lanes_good` meets its contract. The part lent is the list. Assumes nothing.
use mathlib.Core.Path.{◌≡◌, sym}
use mathlib.Core.Bool.{and-true}
use Prim.Native.Nat.{suc, ◌+◌, ◌-◌}
use native.Mathlib.Omega.{arith}
use lib.ListN.{get_or}
use Rattle.row_tests.specs.Good.{ids_good}
use Rattle.tables.specs.View.{ids_at}
use Rattle.entity_tests.proofs.lanes_good.Goals as goal

pub returns-then-once : goal.returns-then-once
returns-then-once c =
    let w = c.args.w.now in
    let k = c.args.k in
    let e : k + 1 + get_or w k 0 - (k + 1) ≡ get_or w k 0 = omega arith in
    let f : k + 1 ≡ suc k = omega arith in
    rw (c.lanes_good.ensures, e, f, c.if-once.true)

pub returns : goal.returns
returns c =
    let w = c.args.w.now in
    let k = c.args.k in
    let e : k + 1 + get_or w k 0 - (k + 1) ≡ get_or w k 0 = omega arith in
    let f : k + 1 ≡ suc k = omega arith in
    rw (c.all_at_most.ensures, e, f, c.if-once.false) (sym (and-true (ids_good c.args.most (ids_at k w))))
