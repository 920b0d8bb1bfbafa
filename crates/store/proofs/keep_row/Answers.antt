-- `store::keep_row` meets its contract. Assumes nothing.
use Prim.Native.Nat.{◌+◌, ◌*◌}
use native.Mathlib.Nat.{mul-le-mul_right}
use native.Mathlib.Omega.{arith}
use lib.ListN.{take, drop}
use Rattle.lists.specs.Rows.{over}
use Rattle.store.proofs.Turns.{at_least, row_kept, row-gone}
use Rattle.store.proofs.keep_row.Goals as goal

pub overflow_mul-kept : goal.overflow_mul-kept
overflow_mul-kept c = omega (arith, mul-le-mul_right c.args.s c.requires.1.1, c.requires.1.0)

pub overflow_add-kept : goal.overflow_add-kept
overflow_add-kept c = omega (arith, mul-le-mul_right c.args.s c.requires.1.1, c.requires.1.0)

pub move_down-requires : goal.move_down-requires
move_down-requires c = (omega (arith, mul-le-mul_right c.args.s c.requires.1.1), omega (arith, c.requires.1.0))

pub overflow_add-result : goal.overflow_add-result
overflow_add-result c = omega (arith, at_least c.args.i c.args.s c.requires.0, c.requires.1.0, c.requires.1.1)

pub returns-then-stay : goal.returns-then-stay
returns-then-stay c =
    let a = c.args in
    row_kept a.stay (a.kept + 1) a.kept c.move_down.new.words (over a.t.now (1 + a.kept * a.s) (take a.s (drop (1 + a.i * a.s) a.t.now))) a.t.now c.if-stay.true c.move_down.ensures

pub returns : goal.returns
returns c =
    let a = c.args in
    row-gone a.stay (a.kept + 1) a.kept (over a.t.now (1 + a.kept * a.s) (take a.s (drop (1 + a.i * a.s) a.t.now))) a.t.now c.if-stay.false
