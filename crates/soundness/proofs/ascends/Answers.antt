-- `soundness::ascends` meets its contract. The part lent is the rows. Assumes nothing.
use native.Mathlib.Omega.{arith}
use borrow.Author.Rules.{rules}
use Rattle.soundness.proofs.Counts.{some, lent-may, lent_gives}
use Rattle.soundness.proofs.ascends.Goals as goal

pub slice_bounds-keys_ascend-count : goal.slice_bounds-keys_ascend-count
slice_bounds-keys_ascend-count c = omega (arith, some c.args.limit c.args.row c.args.t.now c.requires.1)

pub bounds-t-0 : goal.bounds-t-0
bounds-t-0 c = omega (arith, some c.args.limit c.args.row c.args.t.now c.requires.1)

pub keys_ascend-requires : goal.keys_ascend-requires
keys_ascend-requires c = lent-may c.args.limit c.args.row c.args.t.now c.requires.1 c.requires.0

pub returns : goal.returns
returns c = lent_gives c.args.limit c.args.row c.args.t.now c.requires.1 c.keys_ascend.result c.keys_ascend.ensures
