-- `split_lanes::cut_lanes` meets its contract: second halves are made of the rows as they were, and counted last. Assumes nothing.
use borrow.Author.Rules.{rules}
use native.Mathlib.Omega.{arith}
use lib.ListN.{length-set}
use Rattle.split_tables.proofs.Halving.{lanes_ask, cut-count, lanes-counted}
use Rattle.split_lanes.proofs.cut_lanes.Goals as goal

pub cut_rows-requires : goal.cut_rows-requires
cut_rows-requires c = let a = c.args in lanes_ask a.pieces.now a.m a.cut.now a.next a.centers.now a.seen.now a.t.now c.requires c.put_halves.new.t c.put_halves.ensures c.put_halves.auto.t

pub overflow_add-t : goal.overflow_add-t
overflow_add-t c = let a = c.args in omega (arith, cut-count a.pieces.now a.m a.cut.now a.next a.centers.now a.seen.now a.t.now c.requires c.put_halves.new.t c.put_halves.ensures c.put_halves.auto.t c.cut_rows.new.t c.cut_rows.ensures, c.requires.room)

pub shape_of-t : goal.shape_of-t
shape_of-t c = let a = c.args in simp length-set (omega (arith, c.put_halves.auto.t, c.cut_rows.auto.t))

pub returns : goal.returns
returns c = let a = c.args in lanes-counted a.pieces.now a.m a.cut.now a.next a.centers.now a.seen.now a.t.now c.requires c.put_halves.new.t c.put_halves.ensures c.put_halves.auto.t c.cut_rows.new.t c.cut_rows.ensures
