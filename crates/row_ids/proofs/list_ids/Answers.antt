-- `row_ids::list_ids` meets its contract. The invariant: the ids of the rows before i are listed. Assumes nothing.
use mathlib.Core.Path.{refl}
use native.Mathlib.Omega.{arith}
use lib.ListN.{length, length-set}
use Rattle.lists.proofs.Rows.{row-start}
use Rattle.row_ids.proofs.Laws.{list-none, list-more, list_all}
use Rattle.row_ids.proofs.list_ids.Goals as goal

pub loop-i-init : goal.loop-i-init
loop-i-init c = (omega arith, (refl, list-none c.args.s c.args.n c.args.rows.now c.args.ids.now c.requires.0 c.requires.1.1.1.1))

pub overflow_mul-ids : goal.overflow_mul-ids
overflow_mul-ids c = omega (arith, row-start c.loop-i.i c.args.n c.args.s (length c.args.rows.now) c.requires.0 c.requires.1.0 c.loop-i-test.true)

pub offset_bounds-rows-i : goal.offset_bounds-rows-i
offset_bounds-rows-i c = omega (arith, row-start c.loop-i.i c.args.n c.args.s (length c.args.rows.now) c.requires.0 c.requires.1.0 c.loop-i-test.true)

pub bounds-rows-i : goal.bounds-rows-i
bounds-rows-i c = row-start c.loop-i.i c.args.n c.args.s (length c.args.rows.now) c.requires.0 c.requires.1.0 c.loop-i-test.true

pub loop-i-preserved : goal.loop-i-preserved
loop-i-preserved c = (omega arith, (simp length-set c.loop-i.invariant.1.0, list-more c.args.s c.args.n c.args.rows.now c.loop-i.ids c.requires.0 c.loop-i.i c.loop-i-test.true (omega arith) c.loop-i.invariant.1.1))

pub returns : goal.returns
returns c = list_all c.args.s c.args.n c.args.rows.now c.loop-i.ids c.requires.0 c.loop-i.i (omega arith) c.loop-i.invariant.1.1
