-- `map::sound::counted` meets its contract. The row count is at most 4,096 and a row at most 512 words long, so the product fits. Assumes nothing.
use Prim.Native.Nat.{◌*◌, ◌≤◌}
use native.Mathlib.Omega.{arith}
use native.Mathlib.Nat.{mul-le-mul}
use lib.ListN.{length, get_or}
use borrow.Author.Tests.{le-leb, lt-leb}
use Rattle.row_tests.proofs.sound.counted.Goals as goal
use Rattle.row_tests.proofs.sound.counted.Lts as lts
use Rattle.row_tests.proofs.sound.counted.Reads as reads

abbrev AtAfterSharedSliceKnown21 : Type 0
AtAfterSharedSliceKnown21 = lts.After-shared_slice_known2 reads.Pre reads.Post

small : (c : AtAfterSharedSliceKnown21) → get_or c.args.t.now 0 0 * c.args.row ≤ 4096 * 512
small c =
    let a : get_or c.args.t.now 0 0 ≤ 4096 = omega arith in
    let b : c.args.row ≤ 512 = omega arith in
    mul-le-mul a b

pub returns-then-t-eq0 : goal.returns-then-t-eq0
returns-then-t-eq0 c = rw (lt-leb 1 (length c.args.t.now) (omega arith))

pub returns-then-limit-t : goal.returns-then-limit-t
returns-then-limit-t c =
    let t = c.args.t.now in
    rw (le-leb 1 (length t) (omega arith), lt-leb (get_or t 0 0) c.args.limit (omega arith))

pub overflow_mul-result : goal.overflow_mul-result
overflow_mul-result c = omega (arith, small c.before)

pub overflow_add-result : goal.overflow_add-result
overflow_add-result c = omega (arith, small c.before)

pub returns : goal.returns
returns c =
    let t = c.args.t.now in
    rw (le-leb 1 (length t) (omega arith), le-leb (get_or t 0 0) c.args.limit (omega arith))
