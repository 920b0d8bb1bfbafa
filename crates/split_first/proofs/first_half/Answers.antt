-- `split_first::first_half` meets its contract: store by store. Assumes nothing.
use borrow.Author.Rules.{rules}
use native.Mathlib.Omega.{arith}
use Rattle.split_rows.proofs.Written.{left-asks, right-asks, list-asks, first-written, first-links}
use Rattle.split_first.proofs.first_half.Goals as goal

pub first_slot-requires : goal.first_slot-requires
first_slot-requires c = let a = c.args in (c.requires.0.cuts, left-asks a.pieces.now a.m a.cut.now a.next a.centers.now a.rank a.row.now c.requires.1.1.0 c.requires.1.1.1 c.half_ref.result c.half_ref.ensures c.half_ref-2.result c.half_ref-2.ensures c.put_center.new.row c.put_center.ensures)

pub first_slot-requires-2 : goal.first_slot-requires-2
first_slot-requires-2 c = let a = c.args in (c.requires.0.cuts, right-asks a.pieces.now a.m a.cut.now a.next a.centers.now a.rank a.row.now c.requires.1.1.0 c.requires.1.1.1 c.half_ref.result c.half_ref.ensures c.half_ref-2.result c.half_ref-2.ensures c.put_center.new.row c.put_center.ensures c.first_slot.new.row c.first_slot.ensures)

pub put_list-requires : goal.put_list-requires
put_list-requires c = let a = c.args in list-asks a.pieces.now a.m a.cut.now a.next a.centers.now a.rank a.row.now c.requires.1.1.0 c.requires.1.1.1 c.half_ref.result c.half_ref.ensures c.half_ref-2.result c.half_ref-2.ensures c.put_center.new.row c.put_center.ensures c.first_slot.new.row c.first_slot.ensures c.first_slot-2.new.row c.first_slot-2.ensures

pub shape_of-row : goal.shape_of-row
shape_of-row c = let a = c.args in omega (arith, c.requires.1.1.0, (first-links a.pieces.now a.m a.cut.now a.next a.centers.now a.rank a.row.now c.requires.1.1.0 c.requires.1.1.1 c.half_ref.result c.half_ref.ensures c.half_ref-2.result c.half_ref-2.ensures c.put_center.new.row c.put_center.ensures c.first_slot.new.row c.first_slot.ensures c.first_slot-2.new.row c.first_slot-2.ensures c.put_list.new.row c.put_list.ensures).0)

pub returns : goal.returns
returns c = let a = c.args in first-written a.pieces.now a.m a.cut.now a.next a.centers.now a.rank a.row.now c.requires.1.1.0 c.requires.1.1.1 c.half_ref.result c.half_ref.ensures c.half_ref-2.result c.half_ref-2.ensures c.put_center.new.row c.put_center.ensures c.first_slot.new.row c.first_slot.ensures c.first_slot-2.new.row c.first_slot-2.ensures c.put_list.new.row c.put_list.ensures
