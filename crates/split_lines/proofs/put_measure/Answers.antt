-- `split_lines::put_measure` meets its contract: three stores in a row. Assumes nothing.
use borrow.Author.Rules.{rules}
use Prim.Native.Nat.{◌*◌}
use native.Mathlib.Omega.{arith}
use lib.ListN.{length-set}
use Rattle.lists.proofs.Rows.{over-three}
use Rattle.split_lines.proofs.put_measure.Goals as goal

pub bounds-out-row-2 : goal.bounds-out-row-2
bounds-out-row-2 c = simp length-set (omega (arith, c.requires.0))

pub bounds-out-row-3 : goal.bounds-out-row-3
bounds-out-row-3 c = simp length-set (omega (arith, c.requires.0))

pub returns : goal.returns
returns c = (omega arith, over-three c.args.out.now (c.args.m * 3) c.args.at c.args.sizes.first c.args.sizes.second c.requires.0)
