-- `row_faults::list_named` meets its contract. A list of at most 64 ids lies in the row; the part lent is the list. Assumes nothing.
use mathlib.Core.Path.{◌≡◌}
use Prim.Native.Nat.{suc, ◌+◌, ◌-◌}
use native.Mathlib.Omega.{arith}
use lib.ListN.{get_or}
use borrow.Author.Tests.{le-leb, lt-leb}
use Rattle.row_faults.specs.Passes.{list_named}
use Rattle.row_faults.proofs.list_named.Goals as goal

pub returns-then-w-k-le-IDS : goal.returns-then-w-k-le-IDS
unfolding list_named
returns-then-w-k-le-IDS c =
    let w = c.args.w.now in
    let k = c.args.k in
    let e : k + 1 + get_or w k 0 - (k + 1) ≡ get_or w k 0 = omega arith in
    let f : k + 1 ≡ suc k = omega arith in
    rw (c.both.ensures, c.all_at_most.ensures, e, f, le-leb (get_or w k 0) 64 c.if-w-k-le-IDS.true)

pub returns : goal.returns
unfolding list_named
returns c =
    let w = c.args.w.now in
    let k = c.args.k in
    rw (lt-leb (get_or w k 0) 64 c.if-w-k-le-IDS.false)
